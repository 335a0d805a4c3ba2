-- Entries as a store holds them, and the one answer that they tell.
use Rattle.std.proofs.Common.{◌≡◌, ℕ, Bool, List, [], ◌∷◌, refl, sym, ap, ◌∙◌, subst, inl, inr, append-nil}
use Rattle.wf_model.specs.Lists.{IsIn, AllDiffer}
use Rattle.wf_model.specs.Grammar.{Grammar}
use Rattle.wf_model.specs.View.{View}
use Rattle.wf_model.proofs.Lists.{in_map}
use Rattle.bit_pack.specs.Bits.{Holds}
use Rattle.label_model.specs.Labels.{Label, IsLabel, label_bits}
use Rattle.label_model.specs.Files.{Entry, names_of_entries}
use Rattle.label_model.proofs.LabelBits.{whole_law}
use Rattle.verdict_model.specs.declared.verdict.Verdict.{Verdict}
use Rattle.verdict_model.specs.Verdicts.{IsVerdict}
use Rattle.verdict_model.proofs.OneVerdict.{one_verdict}
use Rattle.label_file.specs.Stored.{EntryHeld, AreHeldOf, names_held}
use Rattle.label_file.proofs.ReadSoFar.{names_same, held_from}
use Rattle.wf_query.specs.declared.answers.Answer.{Answer}
use Rattle.wf_query.specs.Answers.{HasEntry, HasNoEntry, AreDecided, LacksEntry, IsAnswerOfLabels, answer_of, answer_text, IsAnswerText}
use Rattle.wf_query.specs.Lines.{IsOneWord}

-- a name that is held with bits has an entry, whose bytes are those of each label of these bits
pub entry_with : (g : Grammar) (es : List Entry) (hs : List EntryHeld) → AreHeldOf g es hs → (name : List ℕ) (bits : List Bool) → IsIn (record { name = name; bits = bits }) hs → (l : Label) → IsLabel g l → bits ≡ label_bits l → HasEntry g es name l
entry_with g es hs a name bits i l of is =
    let r = held_from g es hs a (record { name = name; bits = bits }) i in
    (r.0, r.1, sym r.2.name, of, subst (λ b. Holds r.0.label b) is r.2.bytes)

-- a name that is not held has no entry
pub entry_without : (g : Grammar) (es : List Entry) (hs : List EntryHeld) → AreHeldOf g es hs → (name : List ℕ) → (IsIn name (names_held hs) → ⊥) → HasNoEntry es name
entry_without g es hs a name none i = none (subst (λ l. IsIn name l) (sym (names_same g es hs a)) i)

-- bytes are those of one label
pub told_label : (g : Grammar) (bytes : List ℕ) (x y : Label) → IsLabel g x → IsLabel g y → Holds bytes (label_bits x) → Holds bytes (label_bits y) → x ≡ y
told_label g bytes x y p q h k = (whole_law g x y bytes [] p q h (subst (λ b. Holds b (label_bits y)) (sym (append-nil bytes)) k)).1

-- the name of an entry is among the names
pub name_of_entry : (es : List Entry) (e : Entry) → IsIn e es → (name : List ℕ) → e.name ≡ name → IsIn name (names_of_entries es)
name_of_entry es e i name n = subst (λ z. IsIn z (names_of_entries es)) n (in_map (λ (z : Entry). z.name) e es i)

-- entries whose names differ have one of a name
pub one_entry : (es : List Entry) → AllDiffer (names_of_entries es) → (a b : Entry) → IsIn a es → IsIn b es → a.name ≡ b.name → a ≡ b
one_entry [] d a b i j n = absurd i
one_entry (e ∷ es) d a b (inl p) (inl q) n = p ∙ sym q
one_entry (e ∷ es) d a b (inl p) (inr j) n = absurd (d.0 (name_of_entry es b j e.name (sym n ∙ ap (λ (z : Entry). z.name) p)))
one_entry (e ∷ es) d a b (inr i) (inl q) n = absurd (d.0 (name_of_entry es a i e.name (n ∙ ap (λ (z : Entry). z.name) q)))
one_entry (e ∷ es) d a b (inr i) (inr j) n = one_entry es d.1 a b i j n

module _ (g : Grammar) (u : View) (es : List Entry) (differ : AllDiffer (names_of_entries es)) where
  -- a name has the bytes of one label
  pub one_label : (name : List ℕ) (x y : Label) → HasEntry g es name x → HasEntry g es name y → x ≡ y
  one_label name x y p q =
      let e = one_entry es differ p.0 q.0 p.1 q.1 (p.2 ∙ sym q.2) in
      told_label g q.0.label x y p.3 q.3 (subst (λ (z : Entry). Holds z.label (label_bits x)) e p.4) q.4

  -- a name with an entry does not lack one
  lacks_none : (first second : List ℕ) (v : Verdict) → LacksEntry es first second → AreDecided g u es first second v → ⊥
  lacks_none first second v (inl n) d = n (name_of_entry es d.first_entry.0 d.first_entry.1 first d.first_entry.2)
  lacks_none first second v (inr n) d = n (name_of_entry es d.second_entry.0 d.second_entry.1 second d.second_entry.2)

  -- the labels of two entries have one verdict
  one_decided : (first second : List ℕ) (v w : Verdict) → AreDecided g u es first second v → AreDecided g u es first second w → v ≡ w
  one_decided first second v w p q =
      one_verdict g u q.x q.y v w
      (subst (λ z. IsVerdict g u z q.y v) (one_label first p.x q.x p.first_entry q.first_entry) (subst (λ z. IsVerdict g u p.x z v) (one_label second p.y q.y p.second_entry q.second_entry) p.verdict))
      q.verdict

  -- a query has one answer
  pub one_answer : (first second : List ℕ) (a b : Answer) → IsAnswerOfLabels g u es first second a → IsAnswerOfLabels g u es first second b → a ≡ b
  one_answer first second a b (inl p) (inl q) = p.1 ∙ sym q.1
  one_answer first second a b (inl p) (inr q) = absurd (lacks_none first second q.0 p.0 q.1)
  one_answer first second a b (inr p) (inl q) = absurd (lacks_none first second p.0 q.0 p.1)
  one_answer first second a b (inr p) (inr q) = p.2 ∙ (ap answer_of (one_decided first second p.0 q.0 p.1 q.1) ∙ sym q.2)

  -- in one word
  pub one_word : IsOneWord (IsAnswerText g u es)
  one_word first second x y p q = p.2 ∙ (ap answer_text (one_answer first second p.0 q.0 p.1 q.1) ∙ sym q.2)
