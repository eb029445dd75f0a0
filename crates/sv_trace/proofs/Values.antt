-- The value of a line, as its text is read or not.
use Rattle.std.proofs.Common.{◌≡◌, ℕ, Bool, true, false, List, None, refl, cond}
use Rattle.std.specs.Str.{IsUtf8, is_utf8}
use Rattle.std.proofs.lemmas.Str.{is_utf8-from_IsUtf8, IsUtf8-from_is_utf8}
use Rattle.serde_json.specs.Read.{read}
use Rattle.sv_trace.specs.Reading.{data_of}

pub data_utf8 : (bs : List ℕ) → IsUtf8 bs → data_of bs ≡ read bs
unfolding data_of
data_utf8 bs u = rw (is_utf8-from_IsUtf8 bs u) refl

pub data_bad : (bs : List ℕ) → (IsUtf8 bs → ⊥) → data_of bs ≡ None
unfolding data_of
data_bad bs bad = go (is_utf8 bs) refl
  where
    go : (b : Bool) → is_utf8 bs ≡ b → cond b (read bs) None ≡ None
    go true e = absurd (bad (IsUtf8-from_is_utf8 bs e))
    go false e = refl
