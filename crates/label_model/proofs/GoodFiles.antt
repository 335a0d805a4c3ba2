-- The label file of an accepted run has good entries.
use Rattle.std.proofs.Common.{◌≡◌, ℕ, ◌^◌, ◌<◌, false, List, [], ◌∷◌, ◌++◌, length, map, flat_map, codes, replicate, refl, sym, ap, ◌∙◌, subst, arith, length-append}
use Rattle.std.proofs.lemmas.List.{map-append, length-replicate}
use Rattle.wf_model.specs.Lists.{IsIn, AllDiffer}
use Rattle.wf_model.specs.Grammar.{Grammar}
use Rattle.wf_model.specs.WellFormed.{IsWellFormed}
use Rattle.wf_model.specs.declared.event.Event.{Event}
use Rattle.wf_model.specs.Run.{made, made_by, names_of, IsAccepted}
use Rattle.wf_model.specs.Items.{Item, items_by, IsItemName}
use Rattle.wf_model.specs.Linear.{IsLinear}
use Rattle.wf_model.proofs.Lists.{in_append_left, in_append_right, in_map, in_map_from, in_flat_map_from}
use Rattle.wf_model.proofs.Runs.{made-append, name_in, name_from}
use Rattle.bit_pack.specs.Bits.{packed}
use Rattle.bit_pack.proofs.Packing.{packed_law, length-bits_of}
use Rattle.label_model.specs.Labels.{Label, label_bits, IsLabel}
use Rattle.label_model.specs.RunLabels.{labels_by, labelled_by, labelled}
use Rattle.label_model.specs.Reading.{IsLabelBytes}
use Rattle.label_model.specs.Files.{Entry, entry_of, entries_of, HasRoom, names_of_entries}
use Rattle.label_model.specs.FileLaws.{GoodFileLaw, CutLaw}
use Rattle.label_model.proofs.TakenEvents.{taken}
use Rattle.label_model.proofs.Lists.{firsts}
use Rattle.label_model.proofs.ItemLabels.{as_long}
use Rattle.label_model.proofs.AcceptedLabels.{label_law}
use Rattle.label_model.proofs.LabelRoom.{room_law}
use Rattle.label_model.proofs.CutFiles.{cut_entries_law}
use Rattle.label_model.proofs.NamesDiffer.{item_names, owned, names_differ}

-- the names of entries are those of their items
entry_names : (xs : List (Item × Label)) → names_of_entries (map entry_of xs) ≡ map (λ (t : Item). t.name) (map (λ (t : Item × Label). t.0) xs)
entry_names [] = refl
entry_names (x ∷ xs) = ap (λ z. x.0.name ∷ z) (entry_names xs)

names-by : (g : Grammar) (events : List Event) (e : Event) → names_of_entries (map entry_of (labelled_by g events e)) ≡ item_names g e
names-by g events e = entry_names (labelled_by g events e) ∙ ap (map (λ (t : Item). t.name)) (firsts (items_by g g.start e) (labels_by g events e) (as_long g events e))

names-all : (g : Grammar) (events more : List Event) → names_of_entries (map entry_of (flat_map (labelled_by g events) more)) ≡ flat_map (item_names g) more
names-all g events [] = refl
names-all g events (e ∷ more) =
    let x = labelled_by g events e in
    let y = flat_map (labelled_by g events) more in
    ap names_of_entries (map-append entry_of x y) ∙
    (map-append (λ (z : Entry). z.name) (map entry_of x) (map entry_of y) ∙
    (ap (λ z. z ++ names_of_entries (map entry_of y)) (names-by g events e) ∙ ap (λ z. item_names g e ++ z) (names-all g events more)))

module _ (g : Grammar) (wf : IsWellFormed g) (events : List Event) (acc : IsAccepted g (2 ^ 24) events) where
  -- the names that an event of the run makes are names of the run
  made_here : (e : Event) (c : List ℕ) → IsIn e events → IsIn c (names_of (made_by g g.start e)) → IsIn c (names_of (made g g.start events))
  made_here e c h k =
      let t = taken g g.start events [] e acc.0 h in
      let q = name_from c (made_by g g.start e) k in
      let later = in_append_right q.0 (made g g.start t.before) (made g g.start (e ∷ t.later)) (in_append_left q.0 (made_by g g.start e) (made g g.start t.later) q.1) in
      let here : IsIn q.0 (made g g.start (t.before ++ e ∷ t.later)) = subst (IsIn q.0) (sym (made-append g g.start t.before (e ∷ t.later))) later in
      subst (λ z. IsIn z (names_of (made g g.start events))) (sym q.2) (name_in q.0 (made g g.start events) (subst (λ l. IsIn q.0 (made g g.start l)) (sym t.is) here))

  -- the name of an entry is that of an item
  item_named : (t : Item × Label) → IsIn t (labelled g events) → IsItemName t.0.name
  item_named t h =
      let r = in_flat_map_from (labelled_by g events) t events h in
      let n : IsIn t.0.name (item_names g r.0) = subst (IsIn t.0.name) (names-by g events r.0) (in_map (λ (z : Entry). z.name) (entry_of t) (map entry_of (labelled_by g events r.0)) (in_map entry_of t (labelled_by g events r.0) r.2)) in
      let k = taken g g.start events [] r.0 acc.0 r.1 in
      let o = owned g wf k.before r.0 k.extends t.0.name n in
      (o.owner, o.port, (o.dots, (o.good, acc.2 o.owner (made_here r.0 o.owner r.1 o.made)), o.short))

  -- a name of an item has room for its length
  name_room : (n : List ℕ) → IsItemName n → length n < 2 ^ 8
  name_room n q = let a = ap length q.2.0 in omega (arith, a, q.2.1.1, q.2.2.1, length-append (q.0 ++ codes ".") q.1, length-append q.0 (codes "."))

  -- a label's bytes have room
  label_room : IsLinear g → (l : Label) → IsLabel g l → length (packed (label_bits l)) < 2 ^ 16
  label_room lin l h =
      let p = (packed_law (label_bits l)).holds in
      let r = room_law g wf lin l h in
      omega (arith, r, p.few, length-bits_of (packed (label_bits l)), ap length p.is, length-append (label_bits l) (replicate p.padding false), length-replicate p.padding false)

pub good_file_law : GoodFileLaw
good_file_law g wf lin events acc = record {
  room = λ e i.
      let q = in_map_from entry_of e (labelled g events) i in
      let name = name_room g wf events acc q.0.0.name (item_named g wf events acc q.0 q.1) in
      let label = label_room g wf events acc lin q.0.1 ((label_law g wf events acc).labels q.0.0 q.0.1 q.1) in
      subst HasRoom (sym q.2) (name, label);
  names = λ e i. let q = in_map_from entry_of e (labelled g events) i in subst (λ (z : Entry). IsItemName z.name) (sym q.2) (item_named g wf events acc q.0 q.1);
  labels = λ e i.
      let q = in_map_from entry_of e (labelled g events) i in
      subst (λ (z : Entry). IsLabelBytes g z.label) (sym q.2) (q.0.1, (label_law g wf events acc).labels q.0.0 q.0.1 q.1, (packed_law (label_bits q.0.1)).holds);
  differ = subst AllDiffer (sym (names-all g events events)) (names_differ g wf events acc.0);
}

pub cut_law : CutLaw
cut_law g wf lin digest l events acc = cut_entries_law g digest l (entries_of g events) (good_file_law g wf lin events acc)
