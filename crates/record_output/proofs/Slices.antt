-- A lent text is its bytes.
use Rattle.std.specs.Prelude.{◌≡◌, ℕ, List}
use Rattle.std.proofs.Common.{◌∙◌, ap, sym}
use Rattle.std.specs.Str.{chars, encode_utf8_all, IsUtf8}
use Rattle.std.proofs.lemmas.Str.{encodes-chars}

pub lent_bytes : (text plain bytes : List ℕ) → text ≡ chars plain → bytes ≡ plain → IsUtf8 bytes → encode_utf8_all text ≡ bytes
lent_bytes text plain bytes is same utf8 = ap encode_utf8_all (is ∙ ap chars (sym same)) ∙ encodes-chars bytes utf8
