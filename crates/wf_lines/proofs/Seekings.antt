-- A reader of a file by its name.
use Rattle.std.proofs.Common.{◌≡◌, ℕ, Bool, true, false, List, Ok, sym, subst, true≢false}
use Rattle.wf_io.specs.Told.{File}
use Rattle.wf_io.specs.Lines.{FileLines, AtEnd}
use Rattle.wf_io.specs.Readers.{Reader, Stands, Lends, Ends, Seeks, Advances, TellsLine, left_in}

module _ (f : List ℕ → File) (m n : List ℕ) (same : m ≡ n) (x y : Reader) where
  -- what stands on in the file of one name stands on in that of the same name
  pub stands_as : (Stands (f m) x → Stands (f m) y) → Stands (f n) x → Stands (f n) y
  stands_as = subst (λ k. Stands (f k) x → Stands (f k) y) same

  -- and leaves the same lines
  pub leaves_as : (Stands (f m) x → left_in (f m) y ≡ left_in (f m) x) → Stands (f n) x → left_in (f n) y ≡ left_in (f n) x
  leaves_as = subst (λ k. Stands (f k) x → left_in (f k) y ≡ left_in (f k) x) same

-- where no line is held, what is left is as it was
pub sought_none : (lent : Bool) (old : FileLines) (r : Reader) (new : FileLines) → lent ≡ false → Seeks lent old r new → new ≡ old
sought_none true old r new is h = absurd (true≢false is)
sought_none false old r new is h = h.0

-- where a reader advanced to a line, it is lent
pub advanced_lends : (lent : Bool) (old : FileLines) (r : Reader) (new : FileLines) → lent ≡ true → Advances lent old r new → Lends old r new
advanced_lends true old r new is h = h
advanced_lends false old r new is h = absurd (true≢false (sym is))

-- and otherwise no line is left of a whole file
pub advanced_ends : (lent : Bool) (old : FileLines) (r : Reader) (new : FileLines) → lent ≡ false → Advances lent old r new → Ends old AtEnd
advanced_ends true old r new is h = absurd (true≢false is)
advanced_ends false old r new is h = h

-- where no line is lent, the line that was lent last is the one from before
pub none_lent : (lent : Bool) (old new : Reader) → lent ≡ false → TellsLine old new (Ok lent) → new.line ≡ old.line
none_lent true old new is h = absurd (true≢false is)
none_lent false old new is h = h.1
