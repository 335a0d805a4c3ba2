-- What was put of what is listed for an item.
use Rattle.std.proofs.Common.{◌≡◌, ◌≤◌, ℕ, Bool, List, [], Option, refl, sym, ◌∙◌, subst, inl, inr}
use Rattle.std.specs.Prelude.{codes}
use Rattle.wf_model.specs.Lists.{IsIn, AllDiffer}
use Rattle.wf_model.specs.Grammar.{Grammar}
use Rattle.wf_model.specs.View.{View}
use Rattle.label_model.specs.Labels.{Label, IsLabel}
use Rattle.label_model.specs.Files.{Entry, names_of_entries}
use Rattle.verdict_model.specs.Verdicts.{IsHidden}
use Rattle.wf_io.specs.Told.{Rose, Appended}
use Rattle.wf_lines.specs.Taking.{IsCut}
use Rattle.wf_lines.proofs.Dues.{due_put, due_cut}
use Rattle.wf_message.specs.Endings.{End, Done, WriteFault}
use Rattle.wf_stage.specs.Ends.{EndsBehind, IsWritten}
use Rattle.wf_stage.specs.Causes.{IsWritingCause}
use Rattle.wf_stage.specs.Promises.{Writes}
use Rattle.wf_stage.proofs.Writing.{writes_whole, writes_alike}
use Rattle.label_file.specs.Stored.{EntryHeld, AreHeldOf, IsStoreFor, names_held}
use Rattle.label_file.proofs.ReadSoFar.{names_same}
use Rattle.wf_query.specs.Answers.{HasEntry, HasNoEntry}
use Rattle.wf_query.proofs.Entries.{entry_with, entry_without, name_of_entry, one_label}
use Rattle.wf_lineage.specs.declared.direction.Direction.{Direction}
use Rattle.wf_lineage.specs.Listed.{IsListed, lines_of, IsListing, IsListingText}
use Rattle.wf_lineage.specs.declared.listing.Listing.{Listing}
use Rattle.wf_lineage.specs.declared.listing.Listing.TheVariants.{Hidden, Listed}
use Rattle.wf_vlabel.specs.Seen.{ViewLabelSeen, IsLabelOfView}
use Rattle.wf_lineage.specs.Lines.{OfStore, AreLinesDue, AreLinesCut, IsListingDue}
use Rattle.wf_lineage.proofs.OneListing.{one_listing, one_listing_text}
use Rattle.cmd_explain.specs.Listings.{ListsLabel, ListsItem}

-- what a listing tells: the lines are due
pub listed_told : (g : Grammar) (u : View) (d : Direction) (es : List Entry) (y : Label) (told : Listing) (due due' : List ℕ) (old new : Option (List ℕ)) → told ≡ Listed → IsListingDue g u d es y told due due' old new → (IsHidden g u y → ⊥) × AreLinesDue (IsListed g u d y) es due due' old new
listed_told g u d es y told due due' old new is = subst (λ t. IsListingDue g u d es y t due due' old new) is

-- or the item is hidden
pub hidden_told : (g : Grammar) (u : View) (d : Direction) (es : List Entry) (y : Label) (told : Listing) (due due' : List ℕ) (old new : Option (List ℕ)) → told ≡ Hidden → IsListingDue g u d es y told due due' old new → IsHidden g u y × (due' ≡ due) × (new ≡ old)
hidden_told g u d es y told due due' old new is = subst (λ t. IsListingDue g u d es y t due due' old new) is

-- the text for the item of a label is the only one
only_text : (g : Grammar) (u : View) (d : Direction) (es : List Entry) (y : Label) (text : List ℕ) → IsListing g u d es y text → (e : End) (t : List ℕ) → ListsLabel g u d es y e t → (e ≡ Done) × (t ≡ text)
only_text g u d es y text is e t h = (h.0, one_listing g u d y es t text h.1 is)

-- lines that are due behind nothing
lines_due : (Lists : Entry → Type 0) (es : List Entry) (due due' : List ℕ) (old new : Option (List ℕ)) → due ≡ [] → AreLinesDue Lists es due due' old new → AreLinesDue Lists es [] due' old new
lines_due Lists es due due' old new none = subst (λ z. AreLinesDue Lists es z due' old new) none

-- the names of the entries that a store holds differ
names_differ : (g : Grammar) (es : List Entry) (hs : List EntryHeld) → IsStoreFor g hs → AreHeldOf g es hs → AllDiffer (names_of_entries es)
names_differ g es hs store held = subst (λ (ns : List (List ℕ)). AllDiffer ns) (names_same g es hs held) store.differ

module _ {T : Type 0} {bytes : T → Option (List ℕ)} {faults : T → ℕ} {last : T → Bool} where
  -- what was written where out was as before
  pub writes_still : (R : End → List ℕ → Type 0) (o m p : T) (e : End) → bytes m ≡ bytes o → faults m ≡ faults o → Writes bytes faults last [] R m p e → Writes bytes faults last [] R o p e
  writes_still R o m p e same count w = record {
    ends = subst (λ b. EndsBehind [] R e b (bytes p)) same w.ends;
    cause = subst (λ n. IsWritingCause n (faults p) (last p) e) count w.cause;
    later = subst (λ n. n ≤ faults p) count w.later;
  }

  -- what was written of bytes is written of the same
  pub writes_same : (R : List ℕ → End → List ℕ → Type 0) (i j : List ℕ) (o p : T) (e : End) → i ≡ j → Writes bytes faults last [] (R i) o p e → Writes bytes faults last [] (R j) o p e
  writes_same R i j o p e same = subst (λ z. Writes bytes faults last [] (R z) o p e) same

  -- a text was put whole, which is the only one
  pub writes_only : (R : End → List ℕ → Type 0) (text : List ℕ) → R Done text → ((e : End) (t : List ℕ) → R e t → (e ≡ Done) × (t ≡ text)) → (o p : T) (e : End) → Writes bytes faults last [] (IsWritten text) o p e → Writes bytes faults last [] R o p e
  writes_only R text is only = writes_alike [] (IsWritten text) R (λ e t h. subst (λ z. R z t) (sym h.0) (subst (λ z. R Done z) (sym h.1) is)) only

  -- writing failed of each text that may be written
  pub writes_cut : (R : End → List ℕ → Type 0) (o p : T) → ((e : End) (t : List ℕ) → R e t → IsCut t (bytes o) (bytes p)) → Rose (faults o) (faults p) (last p) → faults o ≤ faults p → Writes bytes faults last [] R o p WriteFault
  writes_cut R o p cut rose later = record {
    ends = record {
      whole = λ w. absurd (w.0 refl);
      begun = λ e t h. (t, refl, (cut e t h).begun);
      due = λ failed e t h. (cut e t h).some;
    };
    cause = rose;
    later = later;
  }

  module _ (g : Grammar) (u : View) (d : Direction) (es : List Entry) where
    module _ (y : Label) where
      -- that the item is hidden was put
      pub hidden_put : IsHidden g u y → (held : List ℕ) → held ≡ codes "hidden\n" → (o m p : T) (e : End) → bytes m ≡ bytes o → faults m ≡ faults o → Writes bytes faults last [] (IsWritten held) m p e → Writes bytes faults last [] (ListsLabel g u d es y) o p e
      hidden_put hidden held same o m p e still count w =
          let is : IsListing g u d es y held = inl (hidden, same) in
          writes_still (ListsLabel g u d es y) o m p e still count (writes_only (ListsLabel g u d es y) held (refl, is) (only_text g u d es y held is) m p e w)

      -- and then they were put
      pub lines_put : (IsHidden g u y → ⊥) → (due due' : List ℕ) (o m p : T) → due ≡ [] → AreLinesDue (IsListed g u d y) es due due' (bytes o) (bytes m) → faults m ≡ faults o → Appended due' (bytes m) (bytes p) → faults p ≡ faults m → Writes bytes faults last [] (ListsLabel g u d es y) o p Done
      lines_put shown due due' o m p none is count put same =
          let l = lines_due (IsListed g u d y) es due due' (bytes o) (bytes m) none is in
          let text = lines_of l.0 in
          let listing : IsListing g u d es y text = inr (shown, (l.0, l.1, refl)) in
          writes_only (ListsLabel g u d es y) text (refl, listing) (only_text g u d es y text listing) o p Done
          (writes_whole text o p (due_put text due' (bytes o) (bytes m) (bytes p) l.2 put) (same ∙ count))

      -- or in part
      pub lines_put_in_part : (IsHidden g u y → ⊥) → (due due' : List ℕ) (o m p : T) → due ≡ [] → AreLinesDue (IsListed g u d y) es due due' (bytes o) (bytes m) → faults m ≡ faults o → IsCut due' (bytes m) (bytes p) → Rose (faults m) (faults p) (last p) → faults m ≤ faults p → Writes bytes faults last [] (ListsLabel g u d es y) o p WriteFault
      lines_put_in_part shown due due' o m p none is count cut rose later =
          let l = lines_due (IsListed g u d y) es due due' (bytes o) (bytes m) none is in
          let text = lines_of l.0 in
          let listing : IsListing g u d es y text = inr (shown, (l.0, l.1, refl)) in
          writes_cut (ListsLabel g u d es y) o p
          (λ e t h. subst (λ z. IsCut z (bytes o) (bytes p)) (sym (only_text g u d es y text listing e t h).1) (due_cut text due' (bytes o) (bytes m) (bytes p) l.2 cut))
          (subst (λ n. Rose n (faults p) (last p)) count rose) (subst (λ n. n ≤ faults p) count later)

      -- writing failed before all lines were due
      pub lines_cut : (IsHidden g u y → ⊥) → (due : List ℕ) (o p : T) → due ≡ [] → AreLinesCut (IsListed g u d y) es due (bytes o) (bytes p) → Rose (faults o) (faults p) (last p) → faults o ≤ faults p → Writes bytes faults last [] (ListsLabel g u d es y) o p WriteFault
      lines_cut shown due o p none cut rose later = writes_cut (ListsLabel g u d es y) o p (λ e t h. go t h.1) rose later
        where
          go : (t : List ℕ) → IsListing g u d es y t → IsCut t (bytes o) (bytes p)
          go t (inl h) = absurd (shown h.0)
          go t (inr h) = subst (λ z. IsCut z (bytes o) (bytes p)) (sym h.1.2) (subst (λ z. AreLinesCut (IsListed g u d y) es z (bytes o) (bytes p)) none cut h.1.0 h.1.1)

    module _ (differ : AllDiffer (names_of_entries es)) (item : List ℕ) where
      -- that the item is unknown was put
      pub unknown_put : HasNoEntry es item → (held : List ℕ) → held ≡ codes "unknown\n" → (o p : T) (e : End) → Writes bytes faults last [] (IsWritten held) o p e → Writes bytes faults last [] (ListsItem g u d es item) o p e
      unknown_put lacks held same o p e =
          let is : IsListingText g u d es item held = inl (lacks, same) in
          writes_only (ListsItem g u d es item) held (refl, is) (λ x t h. (h.0, one_listing_text g es differ u d item t held h.1 is)) o p e

      -- what was put for its label was put for the item
      pub label_put : (y : Label) → HasEntry g es item y → (o p : T) (e : End) → Writes bytes faults last [] (ListsLabel g u d es y) o p e → Writes bytes faults last [] (ListsItem g u d es item) o p e
      label_put y has = writes_alike [] (ListsLabel g u d es y) (ListsItem g u d es item) (λ e t h. (h.0, inr (y, has, h.1))) (λ e t h. (h.0, go t h.1))
        where
          go : (t : List ℕ) → IsListingText g u d es item t → IsListing g u d es y t
          go t (inl h) = absurd (h.0 (name_of_entry es has.0 has.1 item has.2))
          go t (inr h) = subst (λ z. IsListing g u d es z t) (one_label g u es differ item h.0 y h.1 has) h.2

  module _ (g : Grammar) (u : View) (d : Direction) (es : List Entry) (hs : List EntryHeld) (store : IsStoreFor g hs) (held : AreHeldOf g es hs) (item : List ℕ) (o p : T) (e : End) where
    -- a store has no entry of the name
    pub none_held : (IsIn item (names_held hs) → ⊥) → (text : List ℕ) → text ≡ codes "unknown\n" → Writes bytes faults last [] (IsWritten text) o p e → Writes bytes faults last [] (ListsItem g u d es item) o p e
    none_held none text same = unknown_put g u d es (names_differ g es hs store held) item (entry_without g es hs held item none) text same o p e

    -- a store has one, and what was put by the label of the view is put by the grammar and the view
    pub item_put : (l : ViewLabelSeen) → l.grammar ≡ g → IsLabelOfView l u → (bits read : List Bool) → IsIn (record { name = item; bits = bits }) hs → read ≡ bits →
        OfStore l hs read (λ v xs y. Writes bytes faults last [] (ListsLabel l.grammar v d xs y) o p e) → Writes bytes faults last [] (ListsItem g u d es item) o p e
    item_put l same of bits read found is writes =
        let y = store.labels (record { name = item; bits = bits }) found in
        label_put g u d es (names_differ g es hs store held) item y.0 (entry_with g es hs held item bits found y.0 y.1 y.2) o p e
        (subst (λ (x : Grammar). Writes bytes faults last [] (ListsLabel x u d es y.0) o p e) same
        (writes u es y.0 of (subst (λ (x : Grammar). AreHeldOf x es hs) (sym same) held) (subst (λ (x : Grammar). IsLabel x y.0) (sym same) y.1) (is ∙ y.2)))
