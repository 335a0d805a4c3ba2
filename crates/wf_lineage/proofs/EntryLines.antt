-- The lines of the entries of a store, by the verdicts on their labels.
use Rattle.std.proofs.Common.{◌≡◌, ℕ, ◌+◌, ◌<◌, ◌≤◌, Bool, List, ◌++◌, length, take, get_or, Option, refl, sym, ap₂, subst, inl, inr}
use Rattle.std.specs.Prelude.{codes}
use Rattle.wf_model.specs.View.{View}
use Rattle.label_model.specs.Labels.{Label, IsLabel, label_bits}
use Rattle.label_model.specs.Files.{Entry}
use Rattle.verdict_model.specs.declared.verdict.Verdict.{Verdict}
use Rattle.verdict_model.specs.declared.verdict.Verdict.TheVariants.{Yes}
use Rattle.wf_lines.specs.Taking.{IsDue, IsCut}
use Rattle.wf_lines.proofs.Dues.{due_still}
use Rattle.wf_label.specs.Values.{AreLabelBits}
use Rattle.label_file.specs.Stored.{EntryHeld, IsHeldOf, no_entry}
use Rattle.wf_vlabel.specs.Seen.{ViewLabelSeen, IsLabelOfView}
use Rattle.wf_lineage.specs.declared.direction.Direction.{Direction}
use Rattle.wf_lineage.specs.Listed.{IsVerdictOn, IsListed}
use Rattle.wf_lineage.specs.Lines.{OfEntry, OfStore, IsLineDue, IsLineCut, AreLinesDue, AreLinesCut}
use Rattle.wf_lineage.proofs.ListedLines.{none, held_at, held_length, none_due, due_at, cut_at, all_due}
use Rattle.wf_lineage.proofs.OneListing.{listed_by, listed_only_by, held_bytes}

module _ (l : ViewLabelSeen) (d : Direction) (own : List Bool) where
  module _ (name : List ℕ) (bits : List Bool) (label : AreLabelBits l.grammar bits) (v : Verdict)
      (verdict : (u : View) (y x : Label) → IsLabelOfView l u → IsLabel l.grammar y → IsLabel l.grammar x → own ≡ label_bits y → bits ≡ label_bits x → IsVerdictOn l.grammar u d y x v) (due : List ℕ) (old new : Option (List ℕ)) where
    -- by the verdict yes the line is due
    pub line_due : v ≡ Yes → (due' : List ℕ) → IsDue (due ++ (name ++ codes "\n")) due' old new → OfEntry l (record { name = name; bits = bits }) own (λ u e y. IsLineDue (IsListed l.grammar u d y e) e.name due due' old new)
    line_due is_yes due' is u e y of held y_label y_is = inl (
      listed_by l.grammar u d y e label.0 label.1 (held_bytes l.grammar u d y e name bits held label.0 label.2) v (verdict u y label.0 of y_label label.1 y_is label.2) is_yes,
      subst (λ n. IsDue (due ++ (n ++ codes "\n")) due' old new) held.name is,
    )

    -- or was cut
    pub line_cut : v ≡ Yes → IsCut (due ++ (name ++ codes "\n")) old new → OfEntry l (record { name = name; bits = bits }) own (λ u e y. IsLineCut (IsListed l.grammar u d y e) e.name due old new)
    line_cut is_yes cut u e y of held y_label y_is = (
      listed_by l.grammar u d y e label.0 label.1 (held_bytes l.grammar u d y e name bits held label.0 label.2) v (verdict u y label.0 of y_label label.1 y_is label.2) is_yes,
      subst (λ n. IsCut (due ++ (n ++ codes "\n")) old new) held.name cut,
    )

    -- by any other there is no line
    pub no_line : (v ≡ Yes → ⊥) → new ≡ old → OfEntry l (record { name = name; bits = bits }) own (λ u e y. IsLineDue (IsListed l.grammar u d y e) e.name due due old new)
    no_line is_other same u e y of held y_label y_is = inr (
      λ listed. is_other (listed_only_by l.grammar u d y e label.0 label.1 (held_bytes l.grammar u d y e name bits held label.0 label.2) v (verdict u y label.0 of y_label label.1 y_is label.2) listed),
      due_still due due old new same refl,
    )

  module _ (hs : List EntryHeld) (due : List ℕ) (old : Option (List ℕ)) where
    -- the lines of no entry
    pub none_so_far : OfStore l hs own (λ u es y. AreLinesDue (IsListed l.grammar u d y) (take 0 es) due due old old)
    none_so_far u es y of held label is = none_due (IsListed l.grammar u d y) due old es

    -- the lines of all
    pub all_so_far : (k : ℕ) → length hs ≤ k → (new_due : List ℕ) (new : Option (List ℕ)) → OfStore l hs own (λ u es y. AreLinesDue (IsListed l.grammar u d y) (take k es) due new_due old new) → OfStore l hs own (λ u es y. AreLinesDue (IsListed l.grammar u d y) es due new_due old new)
    all_so_far k high new_due new so_far u es y of held label is =
        all_due (IsListed l.grammar u d y) due old es k (subst (λ n. n ≤ k) (sym (held_length l.grammar es hs held)) high) new_due new (so_far u es y of held label is)

    module _ (k : ℕ) (low : k < length hs) (name : List ℕ) (bits : List Bool) (named : name ≡ (get_or hs k no_entry).name) (labelled : bits ≡ (get_or hs k no_entry).bits) (mid_due : List ℕ) (mid new : Option (List ℕ))
        (so_far : OfStore l hs own (λ u es y. AreLinesDue (IsListed l.grammar u d y) (take k es) due mid_due old mid)) where
      -- what the name and the bits are held of
      held_here : (es : List Entry) (e : Entry) → IsHeldOf l.grammar e (get_or hs k no_entry) → IsHeldOf l.grammar e (record { name = name; bits = bits })
      held_here es e h = let same : record { name = name; bits = bits } ≡ get_or hs k no_entry = ap₂ (λ n b. record { name = n; bits = b }) named labelled in subst (λ (x : EntryHeld). IsHeldOf l.grammar e x) (sym same) h

      -- the line of one entry more
      pub one_more : (new_due : List ℕ) → OfEntry l (record { name = name; bits = bits }) own (λ u e y. IsLineDue (IsListed l.grammar u d y e) e.name mid_due new_due mid new) → OfStore l hs own (λ u es y. AreLinesDue (IsListed l.grammar u d y) (take (k + 1) es) due new_due old new)
      one_more new_due line u es y of held label is =
          let h = held_at l.grammar es hs k held low in
          due_at (IsListed l.grammar u d y) due old es k h.0 mid_due new_due mid new (so_far u es y of held label is)
          (line u (get_or es k none) y of (held_here es (get_or es k none) h.1) label is)

      -- or it was cut
      pub cut_here : OfEntry l (record { name = name; bits = bits }) own (λ u e y. IsLineCut (IsListed l.grammar u d y e) e.name mid_due mid new) → OfStore l hs own (λ u es y. AreLinesCut (IsListed l.grammar u d y) es due old new)
      cut_here line u es y of held label is =
          let h = held_at l.grammar es hs k held low in
          cut_at (IsListed l.grammar u d y) due old es k h.0 mid_due mid new (so_far u es y of held label is)
          (line u (get_or es k none) y of (held_here es (get_or es k none) h.1) label is)
