-- The value that a text is as JSON.
use Rattle.std.proofs.Common.{◌≡◌, ℕ, List, Bool, true, false, Some, None, refl}
use Rattle.std.specs.Str.{IsUtf8, is_utf8}
use Rattle.std.proofs.lemmas.Str.{IsUtf8-from_is_utf8, is_utf8-from_IsUtf8}
use Rattle.serde_json.specs.Data.{Data}
use Rattle.serde_json.specs.Read.{read}
use Rattle.trace_read.specs.Reading.{document_of}

pub document_of-some : (text : List ℕ) (d : Data) → IsUtf8 text → read text ≡ Some d → document_of text ≡ Some d
unfolding document_of
document_of-some text d utf8 reads = rw (is_utf8-from_IsUtf8 text utf8) reads

none_by : (b : Bool) (text : List ℕ) → is_utf8 text ≡ b → (IsUtf8 text → read text ≡ None) → document_of text ≡ None
unfolding document_of
none_by true text e refuses = rw e (refuses (IsUtf8-from_is_utf8 text e))
none_by false text e refuses = rw e refl

pub document_of-none : (text : List ℕ) → (IsUtf8 text → read text ≡ None) → document_of text ≡ None
document_of-none text refuses = none_by (is_utf8 text) text refl refuses
