-- A reader of lines as it is opened.
use Rattle.std.proofs.Common.{◌≡◌, ℕ, true, false, List, [], Option, refl, sym, subst, inl, arith, true≢false}
use Rattle.wf_io.specs.Told.{File}
use Rattle.wf_io.specs.Lines.{FileLines, lines_in}
use Rattle.wf_io.specs.Readings.{Reading, IsReadOnce}
use Rattle.wf_io.specs.Readers.{Reader, Stands, left_in, IsReading, HasReadOnce}

abbrev pub opened : List ℕ → Reader
opened name = record { name = name; place = 0; kept = []; number = 1; line = 0; held = []; live = true; wants = false; ended = false }

-- it stands in each file
opened_in : (file : File) (name : List ℕ) → Stands file (opened name)
opened_in file name = record { rest = file.bytes; bytes = refl; within = omega arith; whole = λ e. absurd (true≢false (sym e)) }

-- what is so of what is left of a file where the reader stands is so of all its lines
pub told_opened : (P : FileLines → Type 0) (f : List ℕ → File) (name : List ℕ) (r : Reader) → r ≡ opened name → (Stands (f r.name) r → P (left_in (f r.name) r)) → P (lines_in (f name))
told_opened P f name r is = subst (λ (z : Reader). (Stands (f z.name) z → P (left_in (f z.name) z)) → P (lines_in (f name))) (sym is) (λ h. h (opened_in (f name) name))

module _ (name : List ℕ) (r : Reader) (is : r ≡ opened name) where
  -- it has read nothing
  pub opened_reading : (now : Option (List Reading)) → IsReading r now
  opened_reading now = subst (λ z. IsReading z now) (sym is) (now, inl (refl, refl))

  -- what it reads once of its file is read once
  pub opened_once : (before after : Option (List Reading)) → HasReadOnce r before after → IsReadOnce name before after
  opened_once before after = subst (λ (z : Reader). HasReadOnce z before after → IsReadOnce name before after) (sym is) (λ h. h before (inl (refl, refl)))
