-- The value of a body, by the answers of `serde_json`.
use Rattle.std.proofs.Common.{◌≡◌, sym, refl, ℕ, List, Bool, true, false, cond, Some, None}
use Rattle.std.specs.Str.{IsUtf8, is_utf8}
use Rattle.std.proofs.lemmas.Str.{is_utf8-from_IsUtf8, IsUtf8-from_is_utf8}
use Rattle.serde_json.specs.Data.{Data}
use Rattle.serde_json.specs.Read.{read}
use Rattle.http_exchange.specs.Bodies.{value_of}

pub value-read : (body : List ℕ) (d : Data) → IsUtf8 body → read body ≡ Some d → Some d ≡ value_of body
value-read body d text e = rw (is_utf8-from_IsUtf8 body text) (sym e)

pub value-none : (body : List ℕ) → (IsUtf8 body → read body ≡ None) → None ≡ value_of body
value-none body none = by (is_utf8 body) refl
  where
    by : (v : Bool) → is_utf8 body ≡ v → None ≡ cond v (read body) None
    by true e = sym (none (IsUtf8-from_is_utf8 body e))
    by false e = refl
