-- Bytes of a label file tell entries, whose names differ, or have one refusal.
use Rattle.std.proofs.Common.{◌≡◌, ℕ, List, Option, sym, ◌∙◌, subst}
use Rattle.wf_model.specs.Lists.{AllDiffer}
use Rattle.wf_spec.specs.Held.{HeldGrammar}
use Rattle.wf_json.specs.Digests.{digests_of}
use Rattle.label_model.specs.Files.{Entry, Answer, Accepted, NotLabels, OtherSpec, Truncated, BadName, NameTwice, BadLabel, names_of_entries}
use Rattle.label_model.proofs.FileReadings.{one_reading_law}
use Rattle.label_model.proofs.OpenedNames.{opened_differ}
use Rattle.wf_stage.specs.Stages.{OfWhole}
use Rattle.wf_inputs.specs.LabelsTold.{OpensFor, TellsEntries, IsFaultText, RefusesLabels}

-- an answer has one text at most
one_text : (a : Answer) (x y : List ℕ) → IsFaultText a x → IsFaultText a y → x ≡ y
one_text (Accepted entries) x y p q = absurd p
one_text NotLabels x y p q = p ∙ sym q
one_text OtherSpec x y p q = p ∙ sym q
one_text (Truncated offset) x y p q = p ∙ sym q
one_text (BadName entry) x y p q = p ∙ sym q
one_text (NameTwice entry) x y p q = p ∙ sym q
one_text (BadLabel entry) x y p q = p ∙ sym q

module _ (h : HeldGrammar) (bytes : List ℕ) where
  one_opening : (a b : Answer) → OpensFor h bytes a → OpensFor h bytes b → a ≡ b
  one_opening = one_reading_law h.core (digests_of h) bytes

  -- the entries are one
  pub one_entries : (es fs : List Entry) → TellsEntries h bytes es → TellsEntries h bytes fs → fs ≡ es
  one_entries es fs p q = let same = one_opening (Accepted fs) (Accepted es) q p in (cc)

  -- so is the refusal
  pub one_refusal_of_labels : (l m : Option ℕ) (x y : List ℕ) → OfWhole (RefusesLabels h) bytes l x → OfWhole (RefusesLabels h) bytes m y → (l ≡ m) × (x ≡ y)
  one_refusal_of_labels l m x y p q =
      (p.0 ∙ sym q.0, one_text q.1.0 x y (subst (λ a. IsFaultText a x) (one_opening p.1.0 q.1.0 p.1.1 q.1.1) p.1.2) q.1.2)

  -- bytes that tell entries have none
  pub no_refusal_of_labels : (es : List Entry) (l : Option ℕ) (x : List ℕ) → TellsEntries h bytes es → OfWhole (RefusesLabels h) bytes l x → ⊥
  no_refusal_of_labels es l x told p = subst (λ a. IsFaultText a x) (one_opening p.1.0 (Accepted es) p.1.1 told) p.1.2

  -- the names of the entries differ
  pub told_differ : (es : List Entry) → TellsEntries h bytes es → AllDiffer (names_of_entries es)
  told_differ es told = opened_differ h.core (digests_of h) bytes es told
