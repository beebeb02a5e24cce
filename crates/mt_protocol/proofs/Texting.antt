-- Bytes that are no UTF-8.
use Rattle.std.proofs.Common.{◌≡◌, Bool, true, false, refl}
use Rattle.std.proofs.lemmas.Str.{IsUtf8-from_is_utf8}
use Rattle.std.specs.Str.{IsUtf8, is_utf8}
use Rattle.mt_term.specs.Trees.{Bytes}

no_utf8_by : (bytes : Bytes) (b : Bool) → is_utf8 bytes ≡ b → ¬ (IsUtf8 bytes) → is_utf8 bytes ≡ false
no_utf8_by bytes true e none = absurd (none (IsUtf8-from_is_utf8 bytes e))
no_utf8_by bytes false e none = e

pub no_utf8 : (bytes : Bytes) → ¬ (IsUtf8 bytes) → is_utf8 bytes ≡ false
no_utf8 bytes none = no_utf8_by bytes (is_utf8 bytes) refl none
