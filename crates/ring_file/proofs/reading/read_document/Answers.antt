-- What the reader of TOML says of bytes, with the test for UTF-8 first.
use Rattle.std.proofs.Common.{◌≡◌, ℕ, List, Bool, true, false, None, Err, refl}
use Rattle.std.proofs.lemmas.Bool.{false≢true}
use Rattle.std.proofs.lemmas.Str.{IsUtf8-from_is_utf8, is_utf8-from_IsUtf8}
use Rattle.std.specs.Str.{IsUtf8, is_utf8}
use Rattle.toml.specs.Parse.{parse_document}
use Rattle.ring_file.specs.Documents.{document_of}
use Rattle.ring_file.specs.declared.faults.RingError.TheVariants.{NotToml}
use Rattle.ring_file.proofs.reading.read_document.Goals as goal

refused : (bytes : List ℕ) (b : Bool) → is_utf8 bytes ≡ b → (IsUtf8 bytes → parse_document bytes ≡ None) → document_of bytes ≡ Err NotToml
unfolding document_of
refused bytes true e none = rw (e, none (IsUtf8-from_is_utf8 bytes e))
refused bytes false e none = rw e

pub returns-in-Ok : goal.returns-in-Ok
unfolding document_of
returns-in-Ok c = rw (is_utf8-from_IsUtf8 _ c.in-Ok.ensures.ok.0, c.in-Ok.ensures.ok.1)

pub returns-else-is_memory : goal.returns-else-is_memory
returns-else-is_memory c =
    λ _. refused _ _ refl (c.in-Err.ensures.refused (λ m. absurd (false≢true (rw c.if-is_memory.false at (c.is_memory.ensures.1 m)))))
