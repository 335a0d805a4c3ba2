-- A specification has one fault at most, and none where it tells a grammar.
use Rattle.std.proofs.Common.{◌≡◌, ℕ, ◌⊎◌, List, [], ◌∷◌, ◌++◌, length, get_or, refl, sym, ap, ◌∙◌, subst, inl, inr, ⊎_elim, arith}
use Rattle.std.specs.Prelude.{codes, map, decimal}
use Rattle.std.proofs.lemmas.Bool.{cases_lt}
use Rattle.wf_model.specs.declared.parts.Parts.{Parts}
use Rattle.wf_model.specs.declared.numbers.ProdNo.{ProdNo}
use Rattle.wf_model.specs.Grammar.{Grammar, module_at}
use Rattle.wf_model.proofs.Lists.{at_is, at_in}
use Rattle.wf_spec.specs.declared.version.Version.{Version}
use Rattle.wf_spec.specs.Held.{HeldGrammar}
use Rattle.wf_json.specs.SpecForm.{spec_of}
use Rattle.wf_form.specs.declared.fault.FormFault.{FormFault}
use Rattle.wf_form.specs.Forming.{grammar_of, held_of, IsFormed, HaveVersions}
use Rattle.wf_spec.specs.FirstFaults.{AllHold, IsFirstFault}
use Rattle.wf_form.specs.Rules.{AreKept, first_rules, body_rules, link_rules, version_rules, IsFaultOf as IsFaultOfParts}
use Rattle.wf_spec.proofs.FirstFaults.{no_fault, one_first}
use Rattle.wf_form.proofs.Lawful.{law}
use Rattle.wf_check.proofs.NoneOfProper.{none_of_proper}
use Rattle.wf_check.specs.declared.fault.CheckFault.{CheckFault}
use Rattle.wf_check.specs.declared.fault.CheckFault.TheVariants.{Unreachable, Unproductive, UnitCycle, NoMemory}
use Rattle.wf_check.specs.Improper.{IsLeastWithout, IsUnitCycle, IsFirstOf, IsToldCycle, IsFaultOf as IsFaultOfGrammar}
use Rattle.wf_version.specs.declared.fault.VersionFault.{VersionFault}
use Rattle.wf_version.specs.declared.fault.VersionFault.TheVariants.{CycleChanged, NoMemory as NoMemoryOfVersion}
use Rattle.wf_version.specs.Keeping.{IsFaultOf as ChangesCycle}
use Rattle.grammar_text.specs.Texts.{numbers_text}
use Rattle.wf_check.specs.FaultText.{check_text}
use Rattle.wf_version.specs.FaultText.{version_text}
use Rattle.wf_form.specs.FaultText.{form_text}
use Rattle.wf_inputs.specs.Specification.{KeepsItsCycles, AllKeepCycles, TellsGrammar, RefusesVersions, RefusesLoops, RefusesGrammar, RefusesParts, RefusesSpec}
use Rattle.wf_inputs.proofs.OneRefusal.{one_of_bytes, none_of_bytes}
use Rattle.wf_recur.proofs.OneLoops.{none_of_linear}
use Rattle.wf_inputs.proofs.LoopsText.{one_of_loops}

-- parts have one fault
one_of_parts : (parts : Parts) (f g : FormFault) → IsFaultOfParts parts f → IsFaultOfParts parts g → f ≡ g
one_of_parts parts f g (inl p) (inl q) = one_first (first_rules parts) f g p q
one_of_parts parts f g (inl p) (inr q) = absurd (no_fault (first_rules parts) f q.0 p)
one_of_parts parts f g (inr p) (inl q) = absurd (no_fault (first_rules parts) g p.0 q)
one_of_parts parts f g (inr p) (inr q) = go p.1 q.1
  where
    last : IsFirstFault (link_rules parts) f ⊎ (AllHold (link_rules parts) × IsFirstFault (version_rules parts) f) → IsFirstFault (link_rules parts) g ⊎ (AllHold (link_rules parts) × IsFirstFault (version_rules parts) g) → f ≡ g
    last (inl a) (inl b) = one_first (link_rules parts) f g a b
    last (inl a) (inr b) = absurd (no_fault (link_rules parts) f b.0 a)
    last (inr a) (inl b) = absurd (no_fault (link_rules parts) g a.0 b)
    last (inr a) (inr b) = one_first (version_rules parts) f g a.1 b.1

    go : IsFirstFault (body_rules parts) f ⊎ (AllHold (body_rules parts) × (IsFirstFault (link_rules parts) f ⊎ (AllHold (link_rules parts) × IsFirstFault (version_rules parts) f))) →
        IsFirstFault (body_rules parts) g ⊎ (AllHold (body_rules parts) × (IsFirstFault (link_rules parts) g ⊎ (AllHold (link_rules parts) × IsFirstFault (version_rules parts) g))) → f ≡ g
    go (inl a) (inl b) = one_first (body_rules parts) f g a b
    go (inl a) (inr b) = absurd (no_fault (body_rules parts) f b.0 a)
    go (inr a) (inl b) = absurd (no_fault (body_rules parts) g a.0 b)
    go (inr a) (inr b) = last a.1 b.1

-- parts that keep all rules have none
none_of_kept : (parts : Parts) (f : FormFault) → AreKept parts → AllHold (version_rules parts) → IsFaultOfParts parts f → ⊥
none_of_kept parts f k v (inl p) = no_fault (first_rules parts) f k.first p
none_of_kept parts f k v (inr p) = ⊎_elim (λ a. no_fault (body_rules parts) f k.bodies a) (λ a. ⊎_elim (λ b. no_fault (link_rules parts) f k.links b) (λ b. no_fault (version_rules parts) f v b.1) a.1) p.1

-- the least module without something is one
one_least : (g : Grammar) (Holds : ℕ → Type 0) (m n : ℕ) → IsLeastWithout g Holds m → IsLeastWithout g Holds n → m ≡ n
one_least g Holds m n p q =
    ⊎_elim (λ h. absurd (p.fails (q.before m h p.composite)))
    (λ h. ⊎_elim (λ l. absurd (q.fails (p.before n l q.composite))) (λ l. omega arith) (cases_lt n m)) (cases_lt m n)

-- of two lists of one length, each the first, both are the same
both_first : (ps qs : List ℕ) → length ps ≡ length qs → IsFirstOf ps qs → IsFirstOf qs ps → ps ≡ qs
both_first [] [] e a b = refl
both_first [] (q ∷ qs) e a b = absurd b
both_first (p ∷ ps) [] e a b = absurd a
both_first (p ∷ ps) (q ∷ qs) e (inl a) (inl b) = absurd (omega arith)
both_first (p ∷ ps) (q ∷ qs) e (inl a) (inr b) = let h = b.0 in absurd (omega arith)
both_first (p ∷ ps) (q ∷ qs) e (inr a) (inl b) = let h = a.0 in absurd (omega arith)
both_first (p ∷ ps) (q ∷ qs) e (inr a) (inr b) = ap (λ x. x ∷ ps) a.0 ∙ ap (λ xs. q ∷ xs) (both_first ps qs (omega arith) a.1 b.1)

module _ (g : Grammar) where
  -- the cycle that is told is one
  one_cycle : (ps qs : List ℕ) → IsToldCycle g ps → IsToldCycle g qs → ps ≡ qs
  one_cycle ps qs p q =
      let same : p.module_no ≡ q.module_no =
      ⊎_elim (λ h. absurd (q.least p.module_no ps h p.cycle))
      (λ h. ⊎_elim (λ l. absurd (p.least q.module_no qs l q.cycle)) (λ l. omega arith) (cases_lt q.module_no p.module_no)) (cases_lt p.module_no q.module_no) in
      let there : IsUnitCycle g p.module_no qs = subst (λ m. IsUnitCycle g m qs) (sym same) q.cycle in
      let back : IsUnitCycle g q.module_no ps = subst (λ m. IsUnitCycle g m ps) same p.cycle in
      let short = p.shortest qs there in
      let long = q.shortest ps back in
      let e : length ps ≡ length qs = omega arith in
      both_first ps qs e (p.first qs there (sym e)) (q.first ps back e)

  -- a grammar has one fault, as far as its text tells
  one_of_grammar : (f h : CheckFault) → IsFaultOfGrammar g f → IsFaultOfGrammar g h → check_text g f ≡ check_text g h
  one_of_grammar (Unreachable m) (Unreachable n) p q = ap (λ k. codes "Unreachable " ++ (module_at g k).name) (one_least g _ m.0 n.0 p q)
  one_of_grammar (Unreachable m) (Unproductive n) p q = absurd (p.fails (q.0 m.0 p.composite))
  one_of_grammar (Unreachable m) (UnitCycle qs) p q = absurd (p.fails (q.0 m.0 p.composite))
  one_of_grammar (Unreachable m) NoMemory p q = absurd q
  one_of_grammar (Unproductive m) (Unreachable n) p q = absurd (q.fails (p.0 n.0 q.composite))
  one_of_grammar (Unproductive m) (Unproductive n) p q = ap (λ k. codes "Unproductive " ++ (module_at g k).name) (one_least g _ m.0 n.0 p.1 q.1)
  one_of_grammar (Unproductive m) (UnitCycle qs) p q = absurd (p.1.fails (q.1 m.0 p.1.composite))
  one_of_grammar (Unproductive m) NoMemory p q = absurd q
  one_of_grammar (UnitCycle ps) (Unreachable n) p q = absurd (q.fails (p.0 n.0 q.composite))
  one_of_grammar (UnitCycle ps) (Unproductive n) p q = absurd (q.1.fails (p.1 n.0 q.1.composite))
  one_of_grammar (UnitCycle ps) (UnitCycle qs) p q = ap (λ l. codes "UnitCycle productions" ++ numbers_text l) (one_cycle (map (λ (x : ProdNo). x.0) ps) (map (λ (x : ProdNo). x.0) qs) p.2 q.2)
  one_of_grammar (UnitCycle ps) NoMemory p q = absurd q
  one_of_grammar NoMemory h p q = absurd p

-- a version that keeps its cycles changes none
keeps_none : (g : Grammar) (v : Version) (f : VersionFault) → KeepsItsCycles g v → ChangesCycle g v f → ⊥
keeps_none g v (CycleChanged m) keeps h = keeps m.0 h.gets_on
keeps_none g v NoMemoryOfVersion keeps h = h

-- the change of a version is told by one text
one_change : (g : Grammar) (v : Version) (n : ℕ) (f k : VersionFault) → ChangesCycle g v f → ChangesCycle g v k → version_text g n f ≡ version_text g n k
one_change g v n (CycleChanged a) (CycleChanged b) p q =
    let same : a.0 ≡ b.0 =
    ⊎_elim (λ h. absurd (q.least a.0 h p.gets_on))
    (λ h. ⊎_elim (λ l. absurd (p.least b.0 l q.gets_on)) (λ l. omega arith) (cases_lt b.0 a.0)) (cases_lt a.0 b.0) in
    ap (λ x. (codes "CycleChanged version " ++ decimal n) ++ (codes " module " ++ (module_at g x).name)) same
one_change g v n (CycleChanged a) NoMemoryOfVersion p q = absurd q
one_change g v n NoMemoryOfVersion k p q = absurd p

module _ (h : HeldGrammar) where
  -- the first version that does not keep its cycles is one, and told by one text
  one_refusal_of_versions : (x y : List ℕ) → RefusesVersions h x → RefusesVersions h y → x ≡ y
  one_refusal_of_versions x y p q =
      let first = p.2 in
      let second = q.2 in
      let same : p.0 ≡ q.0 =
      ⊎_elim (λ l. absurd (keeps_none h.core first.version p.1 (second.before p.0 l first.version first.is_at) first.changes))
      (λ l. ⊎_elim (λ k. absurd (keeps_none h.core second.version q.1 (first.before q.0 k second.version second.is_at) second.changes)) (λ k. omega arith) (cases_lt q.0 p.0)) (cases_lt p.0 q.0) in
      let version : first.version ≡ second.version = sym (at_is first.version p.0 h.versions first.version first.is_at) ∙ (ap (λ n. get_or h.versions n first.version) same ∙ at_is second.version q.0 h.versions first.version second.is_at) in
      p.3 ∙ (one_change h.core second.version p.0 p.1 q.1 (subst (λ v. ChangesCycle h.core v p.1) version first.changes) second.changes ∙ (ap (λ n. version_text h.core n q.1) same ∙ sym q.3))

  one_refusal_of_loops : (x y : List ℕ) → RefusesLoops h x → RefusesLoops h y → x ≡ y
  one_refusal_of_loops x y (inl p) (inl q) = p.2 ∙ (one_of_loops h.core p.0 q.0 p.1 q.1 ∙ sym q.2)
  one_refusal_of_loops x y (inl p) (inr q) = absurd (none_of_linear h.core p.0 q.0 p.1)
  one_refusal_of_loops x y (inr p) (inl q) = absurd (none_of_linear h.core q.0 p.0 q.1)
  one_refusal_of_loops x y (inr p) (inr q) = one_refusal_of_versions x y p.1 q.1

  one_refusal_of_grammar : (x y : List ℕ) → RefusesGrammar h x → RefusesGrammar h y → x ≡ y
  one_refusal_of_grammar x y (inl p) (inl q) = p.2 ∙ (one_of_grammar h.core p.0 q.0 p.1 q.1 ∙ sym q.2)
  one_refusal_of_grammar x y (inl p) (inr q) = absurd (none_of_proper h.core p.0 q.0 p.1)
  one_refusal_of_grammar x y (inr p) (inl q) = absurd (none_of_proper h.core q.0 p.0 q.1)
  one_refusal_of_grammar x y (inr p) (inr q) = one_refusal_of_loops x y p.1 q.1

none_of_formed : (parts : Parts) (f : FormFault) → IsFormed parts → HaveVersions parts → IsFaultOfParts parts f → ⊥
none_of_formed parts f formed versions = none_of_kept parts f ((law parts).0.1 formed) ((law parts).1.1 versions)

one_refusal_of_parts : (parts : Parts) (x y : List ℕ) → RefusesParts parts x → RefusesParts parts y → x ≡ y
one_refusal_of_parts parts x y (inl p) (inl q) = p.2 ∙ (ap form_text (one_of_parts parts p.0 q.0 p.1 q.1) ∙ sym q.2)
one_refusal_of_parts parts x y (inl p) (inr q) = absurd (none_of_formed parts p.0 q.0 q.1 p.1)
one_refusal_of_parts parts x y (inr p) (inl q) = absurd (none_of_formed parts q.0 p.0 p.1 q.1)
one_refusal_of_parts parts x y (inr p) (inr q) = one_refusal_of_grammar (held_of parts) x y p.2 q.2

-- the bytes of a specification have one refusal
pub one_refusal : (bytes x y : List ℕ) → RefusesSpec bytes x → RefusesSpec bytes y → x ≡ y
one_refusal = one_of_bytes spec_of RefusesParts one_refusal_of_parts

-- versions that all keep their cycles are not refused
no_refusal_of_versions : (h : HeldGrammar) (x : List ℕ) → AllKeepCycles h → RefusesVersions h x → ⊥
no_refusal_of_versions h x keeps p =
    let first = p.2 in keeps_none h.core first.version p.1 (keeps first.version (at_in first.version p.0 h.versions first.is_at)) first.changes

no_refusal_of_parts : (bytes : List ℕ) (h : HeldGrammar) (t : TellsGrammar bytes h) (x : List ℕ) → RefusesParts t.parts x → ⊥
no_refusal_of_parts bytes h t x (inl p) = none_of_formed t.parts p.0 t.formed t.versions p.1
no_refusal_of_parts bytes h t x (inr (_, _, inl q)) = none_of_proper (grammar_of t.parts) q.0 t.proper q.1
no_refusal_of_parts bytes h t x (inr (_, _, inr (_, inl q))) = none_of_linear (grammar_of t.parts) q.0 t.linear q.1
no_refusal_of_parts bytes h t x (inr (_, _, inr (_, inr (_, q)))) = no_refusal_of_versions (held_of t.parts) x t.keeps q

-- bytes that tell a grammar have none
pub no_refusal : (bytes x : List ℕ) (h : HeldGrammar) → TellsGrammar bytes h → RefusesSpec bytes x → ⊥
no_refusal bytes x h t = none_of_bytes spec_of RefusesParts t.parts (no_refusal_of_parts bytes h t) bytes x t.read
