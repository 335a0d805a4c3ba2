-- Whether an entry is listed is told by the verdict on its label, and the text for an item is one.
use Rattle.std.proofs.Common.{◌≡◌, ℕ, Bool, List, refl, sym, ap, ◌∙◌, subst, inl, inr}
use Rattle.wf_model.specs.Lists.{AllDiffer}
use Rattle.wf_model.specs.Grammar.{Grammar}
use Rattle.wf_model.specs.View.{View}
use Rattle.bit_pack.specs.Bits.{Holds}
use Rattle.label_model.specs.Labels.{Label, IsLabel, label_bits}
use Rattle.label_model.specs.Files.{Entry, names_of_entries}
use Rattle.verdict_model.specs.declared.verdict.Verdict.{Verdict}
use Rattle.verdict_model.specs.declared.verdict.Verdict.TheVariants.{Hidden1, Hidden2, Clash, Yes, No}
use Rattle.verdict_model.specs.Verdicts.{IsHidden, IsVerdict}
use Rattle.verdict_model.proofs.OneVerdict.{one_verdict}
use Rattle.label_file.specs.Stored.{IsHeldOf}
use Rattle.wf_query.proofs.Entries.{told_label, name_of_entry, one_label}
use Rattle.wf_lineage.specs.declared.direction.Direction.{Direction}
use Rattle.wf_lineage.specs.declared.direction.Direction.TheVariants.{Upstream, Downstream}
use Rattle.wf_lineage.specs.Listed.{IsVerdictOn, IsListed, lines_of, IsListing, IsListingText}
use Rattle.wf_lineage.proofs.ListedNames.{listed_once}

-- two labels have one verdict in a direction
one_verdict_on : (g : Grammar) (u : View) (d : Direction) (y x : Label) (v w : Verdict) → IsVerdictOn g u d y x v → IsVerdictOn g u d y x w → v ≡ w
one_verdict_on g u Upstream y x v w p q = one_verdict g u x y v w p q
one_verdict_on g u Downstream y x v w p q = one_verdict g u y x v w p q

-- a label is shown where the verdict on it and itself is another than that the first is hidden
pub shown_by : (g : Grammar) (u : View) (y : Label) (v : Verdict) → IsVerdict g u y y v → (v ≡ Hidden1 → ⊥) → IsHidden g u y → ⊥
shown_by g u y Hidden1 h other hidden = other refl
shown_by g u y Hidden2 h other hidden = h.0 hidden
shown_by g u y Clash h other hidden = h.0.0 hidden
shown_by g u y Yes h other hidden = h.0.0 hidden
shown_by g u y No h other hidden = h.0.0 hidden

module _ (g : Grammar) (u : View) (d : Direction) (y : Label) where
  -- an entry with the bytes of a label is listed where the verdict on it is yes
  pub listed_by : (e : Entry) (x : Label) → IsLabel g x → Holds e.label (label_bits x) → (v : Verdict) → IsVerdictOn g u d y x v → v ≡ Yes → IsListed g u d y e
  listed_by e x of holds v verdict is = (x, of, holds, subst (IsVerdictOn g u d y x) is verdict)

  -- and only there
  pub listed_only_by : (e : Entry) (x : Label) → IsLabel g x → Holds e.label (label_bits x) → (v : Verdict) → IsVerdictOn g u d y x v → IsListed g u d y e → v ≡ Yes
  listed_only_by e x of holds v verdict listed =
      one_verdict_on g u d y x v Yes verdict
      (subst (λ z. IsVerdictOn g u d y z Yes) (told_label g e.label listed.0 x listed.1 of listed.2 holds) listed.3)

  -- so of an entry that is held as the bits of a label
  pub held_bytes : (e : Entry) (name : List ℕ) (bits : List Bool) → IsHeldOf g e (record { name = name; bits = bits }) → (x : Label) → bits ≡ label_bits x → Holds e.label (label_bits x)
  held_bytes e name bits held x is = subst (λ b. Holds e.label b) is held.bytes

  -- the text for the item of a label is one
  pub one_listing : (es : List Entry) (a b : List ℕ) → IsListing g u d es y a → IsListing g u d es y b → a ≡ b
  one_listing es a b (inl p) (inl q) = p.1 ∙ sym q.1
  one_listing es a b (inl p) (inr q) = absurd (q.0 p.0)
  one_listing es a b (inr p) (inl q) = absurd (p.0 q.0)
  one_listing es a b (inr p) (inr q) = p.1.2 ∙ (ap lines_of (listed_once (IsListed g u d y) es p.1.0 q.1.0 p.1.1 q.1.1) ∙ sym q.1.2)

module _ (g : Grammar) (es : List Entry) (differ : AllDiffer (names_of_entries es)) where
  -- the text for the item of a name is one
  pub one_listing_text : (u : View) (d : Direction) (item a b : List ℕ) → IsListingText g u d es item a → IsListingText g u d es item b → a ≡ b
  one_listing_text u d item a b (inl p) (inl q) = p.1 ∙ sym q.1
  one_listing_text u d item a b (inl p) (inr q) = absurd (p.0 (name_of_entry es q.1.0 q.1.1 item q.1.2))
  one_listing_text u d item a b (inr p) (inl q) = absurd (q.0 (name_of_entry es p.1.0 p.1.1 item p.1.2))
  one_listing_text u d item a b (inr p) (inr q) =
      one_listing g u d q.0 es a b (subst (λ z. IsListing g u d es z a) (one_label g u es differ item p.0 q.0 p.1 q.1) p.2) q.2
