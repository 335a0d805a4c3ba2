-- Bytes describe one automaton or have one fault, and not both.
use Rattle.std.proofs.Common.{◌≡◌, ℕ, List, [], ◌∷◌, Some, None, sym, ap, ◌∙◌, subst, inl, inr}
use Rattle.std.specs.Prelude.{is_some}
use Rattle.std.proofs.lemmas.Option.{same_Some}
use Rattle.serde_json.specs.Data.{Data}
use Rattle.wf_json.specs.Reading.{IsReading, HasNoReading}
use Rattle.wf_model.specs.Grammar.{Grammar}
use Rattle.wf_spec.specs.FirstFaults.{Rule, AllHold, IsFirstFault}
use Rattle.wf_spec.proofs.FirstFaults.{no_fault, one_first}
use Rattle.words_model.specs.Automata.{Automaton}
use Rattle.wf_automaton.specs.declared.parts.AutoParts.{AutoParts}
use Rattle.wf_automaton.specs.declared.fault.AutoFault.{AutoFault}
use Rattle.wf_automaton.specs.declared.fault.AutoFault.TheVariants.{NoMemory}
use Rattle.wf_automaton.specs.Forms.{form_rules, SaysParts, IsAutoText, IsShapeFault}
use Rattle.wf_automaton.specs.Rules.{automaton_of, auto_rules, TellsAutomaton, IsAutoFault}

-- a value says one list of parts
same_parts : (d : Data) (p q : AutoParts) → SaysParts d p → SaysParts d q → p ≡ q
same_parts d p q a b =
    let states = same_Some p.states q.states (sym a.states ∙ b.states) in
    let start = same_Some p.start q.start (sym a.start ∙ b.start) in
    let accept = same_Some p.accept q.accept (sym a.accept ∙ b.accept) in
    let moves = same_Some p.moves q.moves (sym a.moves ∙ b.moves) in
    λ i. record { states = states i; start = start i; accept = accept i; moves = moves i }

-- one that says parts keeps the rules on its form
form_kept : (d : Data) (p : AutoParts) → SaysParts d p → AllHold (form_rules d)
form_kept d p a = (λ k h. a.object, (λ k h. ap is_some a.states, (λ k h. ap is_some a.start, (λ k h. ap is_some a.accept, (λ k h. ap is_some a.moves, tt)))))

module _ (bytes : List ℕ) where
  -- what is so of the value of the bytes is so of each value that they have
  of_value : (Says : Data → Type 0) → (d : Data) × IsReading bytes d × Says d → (c : Data) → IsReading bytes c → Says c
  of_value Says s c r = subst Says (same_Some s.0 c (sym s.1.1 ∙ r.1)) s.2

  of_none : (Says : Data → Type 0) → HasNoReading bytes → (d : Data) × IsReading bytes d × Says d → ⊥
  of_none Says none s = let e : Some s.0 ≡ None = sym s.1.1 ∙ none s.1.0 in absurd (cc)

  same_text : (p q : AutoParts) → IsAutoText bytes p → IsAutoText bytes q → p ≡ q
  same_text p q s t = same_parts t.0 p q (of_value (λ d. SaysParts d p) s t.0 t.1) t.2

  -- the value has this fault of form
  abbrev HasFault : AutoFault → Data → Type 0
  HasFault f d = IsFirstFault (form_rules d) f

  -- bytes that say parts have no fault of form
  no_shape_fault : (p : AutoParts) (f : AutoFault) → IsAutoText bytes p → IsShapeFault bytes f → ⊥
  no_shape_fault p f t (inl h) = of_none (λ d. SaysParts d p) h.0 t
  no_shape_fault p f t (inr h) = no_fault (form_rules t.0) f (form_kept t.0 p t.2) (of_value (HasFault f) h t.0 t.1)

  one_shape_fault : (f h : AutoFault) → IsShapeFault bytes f → IsShapeFault bytes h → f ≡ h
  one_shape_fault f h (inl a) (inl b) = a.1 ∙ sym b.1
  one_shape_fault f h (inl a) (inr b) = absurd (of_none (HasFault h) a.0 b)
  one_shape_fault f h (inr a) (inl b) = absurd (of_none (HasFault f) b.0 a)
  one_shape_fault f h (inr a) (inr b) = one_first (form_rules b.0) f h (of_value (HasFault f) a b.0 b.1) b.2

  module _ (g : Grammar) where
    pub one_automaton : (a b : Automaton) → TellsAutomaton g bytes a → TellsAutomaton g bytes b → a ≡ b
    one_automaton a b s t = s.3 ∙ (ap (automaton_of g) (same_text s.0 t.0 s.1 t.1) ∙ sym t.3)

    pub one_auto_fault : (f h : AutoFault) → IsAutoFault g bytes f → IsAutoFault g bytes h → f ≡ h
    one_auto_fault f h (inl a) (inl b) = one_shape_fault f h a b
    one_auto_fault f h (inl a) (inr b) = absurd (no_shape_fault b.0 f b.1 a)
    one_auto_fault f h (inr a) (inl b) = absurd (no_shape_fault a.0 h a.1 b)
    one_auto_fault f h (inr a) (inr b) = one_first (auto_rules g b.0) f h (subst (λ p. IsFirstFault (auto_rules g p) f) (same_text a.0 b.0 a.1 b.1) a.2) b.2

    pub no_auto_fault : (a : Automaton) (f : AutoFault) → TellsAutomaton g bytes a → IsAutoFault g bytes f → ⊥
    no_auto_fault a f t (inl h) = no_shape_fault t.0 f t.1 h
    no_auto_fault a f t (inr h) = no_fault (auto_rules g t.0) f t.2 (subst (λ p. IsFirstFault (auto_rules g p) f) (same_text h.0 t.0 h.1 t.1) h.2)

-- none of the rules has this fault
abbrev NeverTells : {F : Type 0} → F → List (Rule F) → Type 0
NeverTells f [] = Unit {0}
NeverTells f (r ∷ rs) = ((k : ℕ) → f ≡ r.fault k → ⊥) × NeverTells f rs

never_first : {F : Type 0} (f : F) (rs : List (Rule F)) → NeverTells f rs → IsFirstFault rs f → ⊥
never_first f [] n h = absurd h
never_first f (r ∷ rs) n (inl h) = n.0 h.0 h.2
never_first f (r ∷ rs) n (inr h) = never_first f rs n.1 h.1

-- want of memory is no fault of bytes
pub never_memory : (g : Grammar) (bytes : List ℕ) → IsAutoFault g bytes NoMemory → ⊥
never_memory g bytes (inl (inl h)) = let e = h.1 in absurd (cc)
never_memory g bytes (inl (inr h)) = never_first NoMemory (form_rules h.0) (λ k e. absurd (cc), (λ k e. absurd (cc), (λ k e. absurd (cc), (λ k e. absurd (cc), (λ k e. absurd (cc), tt))))) h.2
never_memory g bytes (inr h) =
    never_first NoMemory (auto_rules g h.0)
    (λ k e. absurd (cc), (λ k e. absurd (cc), (λ k e. absurd (cc), (λ k e. absurd (cc), (λ k e. absurd (cc), (λ k e. absurd (cc), (λ k e. absurd (cc), tt))))))) h.2
