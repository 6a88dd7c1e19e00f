use Rattle.std.proofs.Common.{◌≡◌, [], ◌∷◌, ◌++◌, rules}
use Rattle.std.proofs.lemmas.Map.Iter.{rest_all, rest_more}
use Rattle.trace_json.specs.Trace.{text_of_thread}
use Rattle.trace_json.proofs.Parts.{thread_pushed, threads_pushed}
use Rattle.trace_json.proofs.entries.push_threads.Goals as goal

pub loop-tid-preserved : goal.loop-tid-preserved
loop-tid-preserved c =
    let left : c.loop-tid.tid-iterator ≡ c.in-Some.tid.now ∷ c.next.new.self = search (rules, rest_more) in
    let thread : c.extend_from_slice.new.self.items ≡ c.loop-tid.text.items ++ text_of_thread c.in-Some.tid.now = search rules in
    let comma : c.push.new.self.items ≡ c.extend_from_slice.new.self.items ++ 44 ∷ [] = search rules in
    thread_pushed _ _ _ _ _ _ _ left thread comma c.loop-tid.invariant

pub returns : goal.returns
returns c =
    let none : c.loop-tid.tid-iterator ≡ [] = search (rules, rest_all) in
    threads_pushed _ _ _ none c.loop-tid.invariant
