-- The label file of a run begins that of each longer run.
use Rattle.std.proofs.Common.{◌≡◌, ℕ, List, [], ◌∷◌, ◌++◌, flat_map, map, length, zip, refl, sym, ap, ◌∙◌, append_assoc, append-nil}
use Rattle.std.proofs.lemmas.List.Concat.{flat_map-append}
use Rattle.std.proofs.lemmas.List.{map-append}
use Rattle.wf_model.specs.Lists.{IsIn, numbers_from}
use Rattle.wf_model.specs.Grammar.{Grammar, production_at}
use Rattle.wf_model.specs.declared.event.Event.{Event}
use Rattle.wf_model.specs.declared.event.Event.TheVariants.{Start, Expand}
use Rattle.wf_model.specs.Run.{made, IsRun}
use Rattle.wf_model.specs.Items.{Item, items_by}
use Rattle.wf_model.proofs.Runs.{name_in, AllExtend-append}
use Rattle.wf_model.proofs.Mapping.{flat_map_same}
use Rattle.label_model.specs.Labels.{Label, OfEdge}
use Rattle.label_model.specs.Places.{place_of}
use Rattle.label_model.specs.RunLabels.{labelled_by, labelled}
use Rattle.label_model.specs.Files.{entry_bytes, entry_of, head_bytes, label_file}
use Rattle.label_model.specs.FileLaws.{FileGrowsLaw, FileStepLaw}
use Rattle.label_model.proofs.InstanceAddresses.{kept_in}
use Rattle.label_model.proofs.TakenEvents.{expansion_of}

-- an event's items have their labels in each longer run
pub same_labelled : (g : Grammar) (events more : List Event) → IsRun g g.start (events ++ more) → (e : Event) → IsIn e events → labelled_by g (events ++ more) e ≡ labelled_by g events e
same_labelled g events more run (Start r) h = refl
same_labelled g events more run (Expand i p names) h =
    let parts = AllExtend-append g g.start [] events more run in
    let x = expansion_of g g.start events parts.0 i p names h in
    let same = kept_in g g.start more events i parts.1 (name_in _ (made g g.start events) x.stands) in
    ap (λ a. zip (items_by g g.start (Expand i p names)) (map (λ e. OfEdge (place_of g g.start a p e)) (numbers_from 0 (length (production_at g p).edges)))) same

pub labelled-append : (g : Grammar) (events more : List Event) → IsRun g g.start (events ++ more) → labelled g (events ++ more) ≡ labelled g events ++ flat_map (labelled_by g (events ++ more)) more
labelled-append g events more run =
    flat_map-append (labelled_by g (events ++ more)) events more ∙
    ap (λ z. z ++ flat_map (labelled_by g (events ++ more)) more) (flat_map_same (labelled_by g (events ++ more)) (labelled_by g events) events (same_labelled g events more run))

-- the bytes of the entries of some items and of more items
entries-append : (xs ys : List (Item × Label)) → flat_map entry_bytes (map entry_of (xs ++ ys)) ≡ flat_map entry_bytes (map entry_of xs) ++ flat_map entry_bytes (map entry_of ys)
entries-append xs ys = ap (flat_map entry_bytes) (map-append entry_of xs ys) ∙ flat_map-append entry_bytes (map entry_of xs) (map entry_of ys)

file-append : (g : Grammar) (digest : List ℕ) (events more : List Event) → IsRun g g.start (events ++ more) →
    label_file g digest (events ++ more) ≡ label_file g digest events ++ flat_map entry_bytes (map entry_of (flat_map (labelled_by g (events ++ more)) more))
file-append g digest events more run =
    let rest = flat_map (labelled_by g (events ++ more)) more in
    ap (λ z. head_bytes digest ++ flat_map entry_bytes (map entry_of z)) (labelled-append g events more run) ∙
    (ap (λ z. head_bytes digest ++ z) (entries-append (labelled g events) rest) ∙
    sym (append_assoc (head_bytes digest) (flat_map entry_bytes (map entry_of (labelled g events))) (flat_map entry_bytes (map entry_of rest))))

pub file_grows_law : FileGrowsLaw
file_grows_law g digest events more run = (flat_map entry_bytes (map entry_of (flat_map (labelled_by g (events ++ more)) more)), file-append g digest events more run)

pub file_step_law : FileStepLaw
file_step_law g digest events e run =
    file-append g digest events (e ∷ []) run ∙
    ap (λ z. label_file g digest events ++ flat_map entry_bytes (map entry_of z)) (append-nil (labelled_by g (events ++ e ∷ []) e))
