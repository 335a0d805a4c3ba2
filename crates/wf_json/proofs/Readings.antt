-- Bytes have a reading, or none.
use Rattle.std.proofs.Common.{◌≡◌, ◌⊎◌, ℕ, Bool, true, false, List, Option, Some, None, refl, sym, ◌∙◌, inl, inr, true≢false}
use Rattle.std.specs.Str.{is_utf8}
use Rattle.std.proofs.lemmas.Str.{IsUtf8-from_is_utf8, is_utf8-from_IsUtf8}
use Rattle.serde_json.specs.Data.{Data}
use Rattle.serde_json.specs.Read.{read}
use Rattle.wf_json.specs.Reading.{IsReading, HasNoReading}

pub some_reading : (bytes : List ℕ) → ((d : Data) × IsReading bytes d) ⊎ HasNoReading bytes
some_reading bytes = go (is_utf8 bytes) refl (read bytes) refl
  where
    go : (t : Bool) → is_utf8 bytes ≡ t → (o : Option Data) → read bytes ≡ o → ((d : Data) × IsReading bytes d) ⊎ HasNoReading bytes
    go true text (Some d) is = inl (d, (IsUtf8-from_is_utf8 bytes text, is))
    go true text None is = inr (λ utf8. is)
    go false not o is = inr (λ utf8. absurd (true≢false (sym (is_utf8-from_IsUtf8 bytes utf8) ∙ not)))
