-- The lines of the modules, one by one, make the text of a view.
use Rattle.std.proofs.Common.{◌≡◌, ℕ, suc, ◌+◌, ◌-◌, ◌<◌, Bool, false, cond, List, [], ◌++◌, length, get_or, Option, refl, sym, ap, ◌∙◌, subst, arith}
use Rattle.std.specs.Prelude.{flat_map}
use Rattle.wf_model.specs.Lists.{numbers_from}
use Rattle.wf_model.specs.Grammar.{Grammar}
use Rattle.wf_model.specs.Meaning.{pairs_of}
use Rattle.wf_model.specs.Proper.{IsProper}
use Rattle.wf_view.specs.Held.{HeldView, IsHeldFor}
use Rattle.wf_message.specs.Endings.{End, Done}
use Rattle.cmd_describe.specs.ViewText.{module_line, view_text_of}
use Rattle.wf_safe.specs.Full.{AreFullRows}
use Rattle.cmd_describe.specs.Does.{IsViewWritten}
use Rattle.wf_io.specs.Told.{Appended}
use Rattle.wf_stage.specs.Ends.{IsWritten}
use Rattle.wf_stage.specs.Promises.{Writes}
use Rattle.wf_io.proofs.Appending.{appended_twice}
use Rattle.cmd_describe.proofs.NumberedTexts.{texts_tested, texts_split, text_more}
use Rattle.wf_stage.proofs.Writing.{writes_whole, writes_piece, writes_alike, writes_text, wrote}
use Rattle.cmd_describe.proofs.OneViewText.{one_view_text}

module _ (g : Grammar) (v : HeldView) (rows : List (Option (List ℕ))) where
  -- the flag of a module
  abbrev seen : ℕ → Bool
  seen m = get_or v.seen m false

  -- the line of a module, and nothing where it is not seen
  abbrev line : ℕ → List ℕ
  line m = cond (seen m) (module_line g v.core (pairs_of rows) m) []

  abbrev text : List ℕ
  text = view_text_of g v.core seen (pairs_of rows)

  -- the lines of the modules before a module were put
  abbrev pub ArePut : {T : Type 0} → (T → Option (List ℕ)) → (T → ℕ) → ℕ → T → T → Type 0
  ArePut bytes faults k o p = Appended (flat_map line (numbers_from 0 k)) (bytes o) (bytes p) × (faults p ≡ faults o)

  module _ (proper : IsProper g) (held : IsHeldFor g v) (full : AreFullRows g v.core rows) where
    -- the text of the view is this one
    this_text : (e : End) (t : List ℕ) → IsViewWritten g v.core e t → IsWritten text e t
    this_text e t h = (
      h.0,
      h.1.4 ∙ one_view_text g v.core proper held.is_view.expanded h.1.0 seen h.1.1 (pairs_of rows) h.1.2 held.seen h.1.3 full.full,
    )

    text_is : (e : End) (t : List ℕ) → IsWritten text e t → IsViewWritten g v.core e t
    text_is e t h = (h.0, (seen, pairs_of rows, held.seen, full.full, h.1))

    module _ {T : Type 0} {bytes : T → Option (List ℕ)} {faults : T → ℕ} {last : T → Bool} where
      text_written : (t : List ℕ) → t ≡ text → (o p : T) (d : End) → Writes bytes faults last [] (IsWritten t) o p d → Writes bytes faults last [] (IsViewWritten g v.core) o p d
      text_written t e o p d writes = writes_alike [] (IsWritten text) (IsViewWritten g v.core) text_is this_text o p d (writes_text t text e o p d writes)

      -- the line of one module more was put
      pub line_more : (k : ℕ) (o p q : T) → ArePut bytes faults k o p → Writes bytes faults last [] (IsWritten (line k)) p q Done → ArePut bytes faults (k + 1) o q
      line_more k o p q so_far writes =
          let now = wrote (line k) p q writes in (
            subst (λ t. Appended t (bytes o) (bytes q)) (text_more line k [] (flat_map line (numbers_from 0 k)) (flat_map line (numbers_from 0 k) ++ line k) refl refl)
                (appended_twice (flat_map line (numbers_from 0 k)) (line k) (bytes o) (bytes p) (bytes q) so_far.0 now.0),
            now.1 ∙ so_far.1,
          )

      -- all lines were put
      pub lines_put : (k : ℕ) → k ≡ length g.modules → (o p : T) → ArePut bytes faults k o p → Writes bytes faults last [] (IsViewWritten g v.core) o p Done
      lines_put k e o p so_far =
          let all = numbers_from 0 (length g.modules) in
          text_written (flat_map line (numbers_from 0 k)) (sym (texts_tested (module_line g v.core (pairs_of rows)) seen all ∙ ap (λ n. flat_map line (numbers_from 0 n)) (sym e))) o p Done (writes_whole (flat_map line (numbers_from 0 k)) o p so_far.0 so_far.1)

      -- the lines before that of a module were put, and this ended the program
      pub line_stops : (k : ℕ) → k < length g.modules → (d : End) (o p q : T) → ArePut bytes faults k o p → (d ≡ Done → ⊥) → Writes bytes faults last [] (IsWritten (line k)) p q d → Writes bytes faults last [] (IsViewWritten g v.core) o q d
      line_stops k h d o p q so_far stopped writes =
          let all = numbers_from 0 (length g.modules) in
          let e : length g.modules ≡ k + suc (length g.modules - suc k) = omega arith in
          let s : 0 + k ≡ k = omega arith in
          let r = texts_split line 0 k (length g.modules - suc k) in
          text_written (flat_map line (numbers_from 0 k) ++ (line k ++ r.0))
          (sym (texts_tested (module_line g v.core (pairs_of rows)) seen all ∙ ap (λ n. flat_map line (numbers_from 0 n)) e ∙ r.1 ∙ ap (λ i. flat_map line (numbers_from 0 k) ++ (line i ++ r.0)) s))
          o q d (writes_piece (flat_map line (numbers_from 0 k)) (line k) r.0 o p q d so_far.0 so_far.1 stopped writes)
