-- The lines of the entries that are listed, made due one by one.
use Rattle.std.proofs.Common.{◌≡◌, ℕ, zero, suc, ◌+◌, ◌<◌, ◌≤◌, List, [], ◌∷◌, ◌++◌, length, take, drop, get_or, Option, refl, sym, ap, ◌∙◌, subst, inl, inr, arith, append-nil, append_assoc}
use Rattle.std.specs.Prelude.{codes}
use Rattle.std.proofs.lemmas.List.{take_more, take_all, take-append-drop}
use Rattle.std.proofs.lemmas.Grind.{flat_map-append}
use Rattle.std.proofs.Math.Seq.{drop-cons}
use Rattle.wf_model.specs.Grammar.{Grammar}
use Rattle.label_model.specs.Files.{Entry}
use Rattle.label_file.specs.Stored.{EntryHeld, IsHeldOf, AreHeldOf, no_entry}
use Rattle.wf_lines.specs.Taking.{IsDue, IsCut}
use Rattle.wf_lines.proofs.Dues.{due_still, due_later, due_more, due_cut, cut_longer}
use Rattle.wf_lineage.specs.Listed.{AreListed, lines_of}
use Rattle.wf_lineage.specs.Lines.{IsLineDue, IsLineCut, AreLinesDue, AreLinesCut}
use Rattle.wf_lineage.proofs.ListedNames.{listed_behind, listed_both}

-- past the end there is an entry without a name
abbrev pub none : Entry
none = record { name = []; label = [] }

-- an entry at a place is held as what a store has there
pub held_at : (g : Grammar) (es : List Entry) (hs : List EntryHeld) (k : ℕ) → AreHeldOf g es hs → k < length hs → (k < length es) × IsHeldOf g (get_or es k none) (get_or hs k no_entry)
held_at g [] [] k a h = absurd (omega arith)
held_at g [] (x ∷ hs) k a h = absurd a
held_at g (e ∷ es) [] k a h = absurd a
held_at g (e ∷ es) (x ∷ hs) zero a h = (omega arith, a.0)
held_at g (e ∷ es) (x ∷ hs) (suc k) a h = let r = held_at g es hs k a.1 (omega arith) in (let more = r.0 in omega arith, r.1)

-- a store has as many
pub held_length : (g : Grammar) (es : List Entry) (hs : List EntryHeld) → AreHeldOf g es hs → length es ≡ length hs
held_length g [] [] a = refl
held_length g [] (x ∷ hs) a = absurd a
held_length g (e ∷ es) [] a = absurd a
held_length g (e ∷ es) (x ∷ hs) a = ap suc (held_length g es hs a.1)

-- a name is due behind what was, and a newline behind it
pub line_added : (due name mid_due new_due : List ℕ) (old mid new : Option (List ℕ)) → IsDue (due ++ name) mid_due old mid → IsDue (mid_due ++ codes "\n") new_due mid new → IsDue (due ++ (name ++ codes "\n")) new_due old new
line_added due name mid_due new_due old mid new first then =
    subst (λ t. IsDue t new_due old new) (append_assoc due name (codes "\n"))
    (due_later ((due ++ name) ++ codes "\n") (mid_due ++ codes "\n") new_due old mid new (due_more (due ++ name) mid_due (codes "\n") old mid first) then)

-- writing failed at the name
pub name_cut : (due name : List ℕ) (old new : Option (List ℕ)) → IsCut (due ++ name) old new → IsCut (due ++ (name ++ codes "\n")) old new
name_cut due name old new cut = subst (λ t. IsCut t old new) (append_assoc due name (codes "\n")) (cut_longer (due ++ name) (codes "\n") old new cut)

-- or at the newline
pub newline_cut : (due name mid_due : List ℕ) (old mid new : Option (List ℕ)) → IsDue (due ++ name) mid_due old mid → IsCut (mid_due ++ codes "\n") mid new → IsCut (due ++ (name ++ codes "\n")) old new
newline_cut due name mid_due old mid new first cut =
    subst (λ t. IsCut t old new) (append_assoc due name (codes "\n"))
    (due_cut ((due ++ name) ++ codes "\n") (mid_due ++ codes "\n") old mid new (due_more (due ++ name) mid_due (codes "\n") old mid first) cut)

-- the line of one name more
lines_more : (names : List (List ℕ)) (name : List ℕ) → lines_of (names ++ name ∷ []) ≡ lines_of names ++ (name ++ codes "\n")
lines_more names name = flat_map-append (λ n. n ++ codes "\n") names (name ∷ []) ∙ ap (λ t. lines_of names ++ t) (append-nil (name ++ codes "\n"))

module _ (Listed : Entry → Type 0) (due : List ℕ) (old : Option (List ℕ)) where
  -- no entry, and no line
  pub none_due : (es : List Entry) → AreLinesDue Listed (take 0 es) due due old old
  none_due es = ([], refl, due_still (due ++ []) due old old refl (sym (append-nil due)))

  -- one entry more
  line_due : (xs : List Entry) (e : Entry) (mid_due new_due : List ℕ) (mid new : Option (List ℕ)) → AreLinesDue Listed xs due mid_due old mid → IsLineDue (Listed e) e.name mid_due new_due mid new → AreLinesDue Listed (xs ++ e ∷ []) due new_due old new
  line_due xs e mid_due new_due mid new so_far (inl h) =
      let line = e.name ++ codes "\n" in
      let text = due ++ lines_of so_far.0 in (
        so_far.0 ++ e.name ∷ [],
        listed_both Listed xs (e ∷ []) so_far.0 (e.name ∷ []) so_far.1 (inl (h.0, ([], refl, refl))),
        subst (λ t. IsDue t new_due old new) (append_assoc due (lines_of so_far.0) line ∙ ap (λ t. due ++ t) (sym (lines_more so_far.0 e.name)))
            (due_later (text ++ line) (mid_due ++ line) new_due old mid new (due_more text mid_due line old mid so_far.2) h.1),
      )
  line_due xs e mid_due new_due mid new so_far (inr h) = (
    so_far.0,
    subst (λ z. AreListed Listed (xs ++ e ∷ []) z) (append-nil so_far.0) (listed_both Listed xs (e ∷ []) so_far.0 [] so_far.1 (inr (h.0, refl))),
    due_later (due ++ lines_of so_far.0) mid_due new_due old mid new so_far.2 h.1,
  )

  -- so at a place
  pub due_at : (es : List Entry) (k : ℕ) → k < length es → (mid_due new_due : List ℕ) (mid new : Option (List ℕ)) → AreLinesDue Listed (take k es) due mid_due old mid → IsLineDue (Listed (get_or es k none)) (get_or es k none).name mid_due new_due mid new → AreLinesDue Listed (take (k + 1) es) due new_due old new
  due_at es k low mid_due new_due mid new so_far line =
      subst (λ l. AreLinesDue Listed l due new_due old new) (sym (take_more es k none low)) (line_due (take k es) (get_or es k none) mid_due new_due mid new so_far line)

  -- the line of an entry was cut, whatever entries follow
  line_cut : (xs ys : List Entry) (e : Entry) (mid_due : List ℕ) (mid new : Option (List ℕ)) → AreLinesDue Listed xs due mid_due old mid → IsLineCut (Listed e) e.name mid_due mid new → AreLinesCut Listed (xs ++ e ∷ ys) due old new
  line_cut xs ys e mid_due mid new so_far cut names listed = let r = listed_behind Listed xs (e ∷ ys) so_far.0 names so_far.1 listed in go r.0 r.1 r.2
    where
      go : (rest : List (List ℕ)) → AreListed Listed (e ∷ ys) rest → names ≡ so_far.0 ++ rest → IsCut (due ++ lines_of names) old new
      go rest (inr p) is = absurd (p.0 cut.0)
      go rest (inl p) is =
          let line = e.name ++ codes "\n" in
          let text = due ++ lines_of so_far.0 in
          let more = lines_of p.1.0 in
          let all = is ∙ ap (λ z. so_far.0 ++ z) p.1.2 in
          subst (λ t. IsCut t old new)
          (append_assoc text line more ∙ (append_assoc due (lines_of so_far.0) (line ++ more) ∙
          ap (λ t. due ++ t) (sym (ap lines_of all ∙ flat_map-append (λ n. n ++ codes "\n") so_far.0 (e.name ∷ p.1.0)))))
          (cut_longer (text ++ line) more old new (due_cut (text ++ line) (mid_due ++ line) old mid new (due_more text mid_due line old mid so_far.2) cut.1))

  -- so at a place
  pub cut_at : (es : List Entry) (k : ℕ) → k < length es → (mid_due : List ℕ) (mid new : Option (List ℕ)) → AreLinesDue Listed (take k es) due mid_due old mid → IsLineCut (Listed (get_or es k none)) (get_or es k none).name mid_due mid new → AreLinesCut Listed es due old new
  cut_at es k low mid_due mid new so_far cut =
      subst (λ l. AreLinesCut Listed l due old new) (sym (sym (take-append-drop k es) ∙ ap (λ z. take k es ++ z) (drop-cons es k none low)))
      (line_cut (take k es) (drop (suc k) es) (get_or es k none) mid_due mid new so_far cut)

  -- all entries
  pub all_due : (es : List Entry) (k : ℕ) → length es ≤ k → (new_due : List ℕ) (new : Option (List ℕ)) → AreLinesDue Listed (take k es) due new_due old new → AreLinesDue Listed es due new_due old new
  all_due es k high new_due new = subst (λ l. AreLinesDue Listed l due new_due old new) (take_all k es high)
