-- The entries of the label file of a run, and the items and labels that they are of.
use Rattle.std.proofs.Common.{◌≡◌, ℕ, ◌^◌, List, [], ◌++◌, Some, None, refl, sym, ap, ◌∙◌, subst, append-nil}
use Rattle.wf_model.specs.Lists.{IsIn}
use Rattle.wf_model.specs.Grammar.{Grammar}
use Rattle.wf_model.specs.WellFormed.{IsWellFormed}
use Rattle.wf_model.specs.declared.event.Event.{Event}
use Rattle.wf_model.specs.Run.{IsAccepted}
use Rattle.wf_model.specs.Items.{Item, items}
use Rattle.wf_model.proofs.ItemNames.{item_of_name}
use Rattle.wf_model.proofs.Lists.{in_map, in_map_from}
use Rattle.bit_pack.specs.Bits.{Holds}
use Rattle.bit_pack.proofs.Packing.{packed_law}
use Rattle.label_model.specs.Labels.{Label, label_bits}
use Rattle.label_model.specs.RunLabels.{labelled, HasLabel}
use Rattle.label_model.specs.Files.{Entry, entry_of, entries_of, names_of_entries}
use Rattle.label_model.proofs.LabelBits.{whole_law}
use Rattle.label_model.proofs.AcceptedLabels.{label_law}
use Rattle.verdict_model.proofs.Keeping.{labelled_item}
use Rattle.wf_query.specs.Answers.{HasEntry, HasNoEntry}
use Rattle.wf_flat.proofs.NamedItems.{IsFoundBy}

-- an entry has its name among those of all
pub entry_named : (g : Grammar) (entries : List Entry) (n : List ℕ) (l : Label) → HasEntry g entries n l → IsIn n (names_of_entries entries)
entry_named g entries n l h = subst (λ m. IsIn m (names_of_entries entries)) h.2 (in_map (λ (z : Entry). z.name) h.0 entries h.1)

module _ (g : Grammar) (wf : IsWellFormed g) (e : List Event) (acc : IsAccepted g (2 ^ 24) e) where
  -- an item has an entry with the bytes of its label
  pub item_entry : (t : Item) → IsIn t (items g g.start e) → (l : Label) × HasLabel g e t l × HasEntry g (entries_of g e) t.name l
  item_entry t h =
      let l = (label_law g wf e acc).each t h in
      (l.0, l.1, (entry_of (t, l.0), in_map entry_of (t, l.0) (labelled g e) l.1.0, refl, l.1.1, (packed_law (label_bits l.0)).holds))

  -- an entry is that of an item with its name, and has the bytes of the item's label
  pub entry_item : (n : List ℕ) (l : Label) → HasEntry g (entries_of g e) n l → (t : Item) × IsIn t (items g g.start e) × (t.name ≡ n) × HasLabel g e t l
  entry_item n l h =
      let q = in_map_from entry_of h.0 (labelled g e) h.1 in
      let t = q.0.0 in
      let k = q.0.1 in
      let of_it = (label_law g wf e acc).labels t k q.1 in
      let own : Holds h.0.label (label_bits k) = subst (λ (z : Entry). Holds z.label (label_bits k)) (sym q.2) (packed_law (label_bits k)).holds in
      let other : Holds (h.0.label ++ []) (label_bits l) = subst (λ b. Holds b (label_bits l)) (sym (append-nil h.0.label)) h.4 in
      let same : k ≡ l = (whole_law g k l h.0.label [] of_it h.3 own other).1 in
      (t, labelled_item g e t k q.1, ap (λ (z : Entry). z.name) (sym q.2) ∙ h.2, subst (HasLabel g e t) same (q.1, of_it))

  -- a name that no item has is that of no entry
  pub no_entry : (n : List ℕ) → ((t : Item) → IsIn t (items g g.start e) → t.name ≡ n → ⊥) → HasNoEntry (entries_of g e) n
  no_entry n lacks h =
      let a = in_map_from (λ (z : Entry). z.name) n (entries_of g e) h in
      let q = in_map_from entry_of a.0 (labelled g e) a.1 in
      lacks q.0.0 (labelled_item g e q.0.0 q.0.1 q.1) (ap (λ (z : Entry). z.name) (sym q.2) ∙ sym a.2)

  -- an item that has a name has an entry of it
  pub found_entry : (n : List ℕ) (t : Item) → IsFoundBy (items g g.start e) n (Some t) → (l : Label) × HasLabel g e t l × HasEntry g (entries_of g e) n l
  found_entry n t found = let q = item_entry t found.0 in (q.0, q.1, subst (λ m. HasEntry g (entries_of g e) m q.0) found.1 q.2)

  -- the label of an entry is that of the item of its name
  pub found_label : (n : List ℕ) (t : Item) (l : Label) → IsFoundBy (items g g.start e) n (Some t) → HasEntry g (entries_of g e) n l → HasLabel g e t l
  found_label n t l found has =
      let q = entry_item n l has in
      subst (λ z. HasLabel g e z l) (item_of_name g g.start e wf acc.0 q.0 t q.1 found.0 (q.2 ∙ sym found.1)) q.3

  -- no entry has a name by which no item is found
  pub not_found : (n : List ℕ) (l : Label) → IsFoundBy (items g g.start e) n None → HasEntry g (entries_of g e) n l → ⊥
  not_found n l none has = let q = entry_item n l has in none q.0 q.1 q.2
