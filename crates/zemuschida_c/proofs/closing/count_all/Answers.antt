use Rattle.std.proofs.Common.{◌≡◌, ◌∙◌, ◌+◌, ◌-◌, ◌^◌, List, Some, ap, arith, flat_map, length, map, min, refl, rules, sym}
use Rattle.std.proofs.Math.Seq.{map-set_same}
use Rattle.std.proofs.lemmas.List.{get_or-map, length-map, take_all}
use Rattle.zemuschida_c.proofs.Counting.{full_on, items_on, next_seat, same_here}
use Rattle.zemuschida_c.proofs.Dealing.{handles_counted}
use Rattle.zemuschida_c.proofs.closing.count_all.Goals as goal

pub loop-index-init : goal.loop-index-init
loop-index-init g c = record {
  same = refl;
  full = λ k d below. absurd (omega arith);
  shape = λ some. absurd (omega arith);
  puts = λ rail seats hold. let few = c.well_formed in search rules;
  takes = λ rail seats hold. search rules;
}

pub loop-index-preserved : goal.loop-index-preserved
loop-index-preserved g c =
    let v = c.loop-index.invariant in let i = c.loop-index.index in let now = c.loop-index.handles in let first = c.args.handles.now in let h = c.index-handles-index.result in
    let value = g.H.SeatHandle.value in
    let long = c.loop-index.auto.handles in let test = c.loop-index-test.true in
    let counted = c.if-not-count.false in
    let next = λ (rail : g.row.H-Queue.Denot) (seats : List g.row.H-Queue-Seat.Denot) (hold : map value first ≡ map (λ (s : g.row.H-Queue-Seat.Denot). Some (g.H.Seating.own rail s)) seats). next_seat value (λ (s : g.row.H-Queue-Seat.Denot). Some (g.H.Seating.own rail s)) first seats i h test hold in
    let here = same_here value now first i h v.same (omega arith) in
    record {
      same = map-set_same value now i c.count.new.handle h c.count.ensures.same ∙ v.same;
      full = full_on value now first i h v.same (omega arith) (c.count.ensures.full counted) v.full;
      shape = λ some rail seats hold. let n = next rail seats hold in c.count.ensures.shape counted rail n.seat (here ∙ n.has);
      puts = λ rail seats hold. let n = next rail seats hold in let p = v.puts rail seats hold in let q = c.count.ensures.puts counted rail n.seat (here ∙ n.has) in let m = items_on g.H.Queue.Rail.made seats i n.seat n.more in omega (arith, p, q, m);
      takes = λ rail seats hold. let n = next rail seats hold in let p = v.takes rail seats hold in let q = c.count.ensures.takes counted rail n.seat (here ∙ n.has) in let m = items_on g.H.Queue.Rail.taken seats i n.seat n.more in omega (arith, p, q, m);
    }

pub returns-then-not-count-clause-same : goal.returns-then-not-count-clause-same
returns-then-not-count-clause-same g c =
    map-set_same g.H.SeatHandle.value c.loop-index.handles c.loop-index.index c.count.new.handle c.index-handles-index.result c.count.ensures.same ∙ c.loop-index.invariant.same

pub returns-then-not-count-clause-none : goal.returns-then-not-count-clause-none
returns-then-not-count-clause-none g c = λ is full.
    let value = g.H.SeatHandle.value in let now = c.loop-index.handles in let first = c.args.handles.now in let i = c.loop-index.index in let h = c.index-handles-index.result in
    let long = c.loop-index.auto.handles in let test = c.loop-index-test.true in
    let here = same_here value now first i h c.loop-index.invariant.same (omega arith) in
    full i (value h) (let n = length-map first value in omega (arith, n)) (get_or-map value first i h (value h) test ∙ sym here ∙ c.count.ensures.none c.if-not-count.true)

pub returns-clause-full : goal.returns-clause-full
returns-clause-full g c = λ is k d below. let n = length-map c.args.handles.now g.H.SeatHandle.value in let end = c.loop-index-test.false in c.loop-index.invariant.full k d (omega (arith, n, end))

pub returns-clause-shape : goal.returns-clause-shape
returns-clause-shape g c = λ is rail seats hold some.
    let n = handles_counted g.H.SeatHandle.value (λ (s : g.row.H-Queue-Seat.Denot). Some (g.H.Seating.own rail s)) c.args.handles.now seats hold in let end = c.loop-index-test.false in
    c.loop-index.invariant.shape (omega (arith, n, end)) rail seats hold

pub returns-clause-puts : goal.returns-clause-puts
returns-clause-puts g c = λ is rail seats hold.
    let n = handles_counted g.H.SeatHandle.value (λ (s : g.row.H-Queue-Seat.Denot). Some (g.H.Seating.own rail s)) c.args.handles.now seats hold in let end = c.loop-index-test.false in
    c.loop-index.invariant.puts rail seats hold ∙ ap (λ xs. min (c.args.totals.now.puts + length (flat_map g.H.Queue.Rail.made xs)) (2 ^ 64 - 1)) (take_all c.loop-index.index seats (omega (arith, n, end)))

pub returns-clause-takes : goal.returns-clause-takes
returns-clause-takes g c = λ is rail seats hold.
    let n = handles_counted g.H.SeatHandle.value (λ (s : g.row.H-Queue-Seat.Denot). Some (g.H.Seating.own rail s)) c.args.handles.now seats hold in let end = c.loop-index-test.false in
    c.loop-index.invariant.takes rail seats hold ∙ ap (λ xs. min (c.args.totals.now.takes + length (flat_map g.H.Queue.Rail.taken xs)) (2 ^ 64 - 1)) (take_all c.loop-index.index seats (omega (arith, n, end)))
