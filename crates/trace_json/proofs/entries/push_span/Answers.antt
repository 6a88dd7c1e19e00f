use Rattle.std.proofs.Common.{◌≡◌, ◌++◌, List, ℕ, map, string_bytes, rules}
use Rattle.std.proofs.lemmas.Result.{on_ok_weaker}
use Rattle.trace_json.specs.Trace.{text_of_event}
use Rattle.trace_json.proofs.Parts.{piece_pushed}
use Rattle.trace_json.proofs.entries.push_span.Goals as goal

pub returns-in-Piece : goal.returns-in-Piece
returns-in-Piece c =
    let names : List (List ℕ) = map string_bytes c.args.files.now in
    let event : c.extend_from_slice.new.self.items ≡ c.push_comma_if.new.text.items ++ text_of_event names c.args.event.now = search rules in
    on_ok_weaker c.push_counter.result (λ pushed. piece_pushed c.args.later names c.args.event.now _ _ _ _ c.in-Piece.is c.in_ok-push_comma_if.ensures event pushed) c.push_counter.ensures
