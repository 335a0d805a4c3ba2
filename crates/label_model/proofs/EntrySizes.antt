-- How long the entries are of the items that an event makes.
use Rattle.std.proofs.Common.{◌≡◌, ℕ, ◌+◌, ◌^◌, ◌≤◌, List, [], ◌∷◌, ◌++◌, map, length, sym, ap, subst, ◌∙◌, inl, refl, arith, length-append}
use Rattle.std.specs.Prelude.{codes}
use Rattle.wf_model.specs.Lists.{IsIn}
use Rattle.wf_model.specs.Grammar.{Grammar}
use Rattle.wf_model.specs.WellFormed.{IsWellFormed}
use Rattle.wf_model.specs.declared.event.Event.{Event}
use Rattle.wf_model.specs.Run.{IsAccepted}
use Rattle.wf_model.specs.Linear.{IsLinear}
use Rattle.wf_model.proofs.Lists.{in_map, in_map_from, in_flat_map, in_append_right}
use Rattle.label_model.specs.RunLabels.{labelled_by, labelled}
use Rattle.wf_model.specs.Items.{IsItemName}
use Rattle.label_model.specs.Files.{Entry, entry_of, entries_of}
use Rattle.label_model.proofs.GoodFiles.{good_file_law}

-- the entries of an event are among those of the run
entry_listed : (g : Grammar) (before : List Event) (e : Event) (x : Entry) → IsIn x (map entry_of (labelled_by g (before ++ e ∷ []) e)) → IsIn x (entries_of g (before ++ e ∷ []))
entry_listed g before e x h =
    let events = before ++ e ∷ [] in
    let t = in_map_from entry_of x (labelled_by g events e) h in
    subst (λ y. IsIn y (entries_of g events)) (sym t.2) (in_map entry_of t.0 (labelled g events) (in_flat_map (labelled_by g events) e t.0 events (in_append_right e before (e ∷ []) (inl refl)) t.1))

-- the name of an item has at most 129 bytes: two names of at most 64, and a dot
item_name_short : (name : List ℕ) → IsItemName name → length name ≤ 129
item_name_short name (instance, port, (is, short, short')) =
    let n : length name ≡ length (instance ++ codes ".") + length port = ap length is ∙ length-append (instance ++ codes ".") port in
    let m : length (instance ++ codes ".") ≡ length instance + 1 = length-append instance (codes ".") in
    let i : length instance ≤ 64 = short.1 in
    let p : length port ≤ 64 = short'.1 in
    omega (arith, n, m, i, p)

pub entry_sizes : (g : Grammar) → IsWellFormed g → IsLinear g → (before : List Event) (e : Event) → IsAccepted g (2 ^ 24) (before ++ e ∷ []) →
    (x : Entry) → IsIn x (map entry_of (labelled_by g (before ++ e ∷ []) e)) → (length x.name ≤ 129) × (length x.label ≤ 65535)
entry_sizes g wf lin before e acc x h =
    let good = good_file_law g wf lin (before ++ e ∷ []) acc in
    let i = entry_listed g before e x h in
    let room = (good.room x i).1 in
    (item_name_short x.name (good.names x i), (let w : length x.label ≤ 65535 = omega arith in w))
