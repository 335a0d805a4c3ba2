-- What the bits of a place tell of its marks.
use Rattle.std.proofs.Common.{◌≡◌, ◌≢◌, ℕ, ◌+◌, ◌^◌, ◌<◌, Bool, true, false, List, [], ◌∷◌, ◌++◌, length, flat_map, None, refl, sym, ap, ◌∙◌, subst, ⊎_elim, arith, append_assoc, Result, Ok, Err}
use Rattle.std.specs.Prelude.{IsOk, IsErr}
use Rattle.bit_pack.specs.Gamma.{gamma}
use Rattle.bit_pack.proofs.Codes.{prefix_free_law, length_law}
use Rattle.wf_model.specs.Grammar.{Grammar, production_at, body_of, alternative_of, IsProductionOf}
use Rattle.wf_model.specs.WellFormed.{IsWellFormed}
use Rattle.wf_model.specs.Reach.{target_of}
use Rattle.label_model.specs.Continuing.{continuing, after}
use Rattle.label_model.proofs.Finding.{cases_option}
use Rattle.label_model.proofs.ContinuingSteps.{continuing_is}
use Rattle.label_model.proofs.Alternatives.{same_alternative}
use Rattle.wf_label.specs.Parts.{HasNoNumber, HasNoAlternative}
use Rattle.wf_label.specs.Marks.{Mark, AtInput, AtOutput, Chain, Into, End, mark_bits, AreMarksAt, BeginMarks}

-- codes that begin the same bits are those of one number
pub same_code : (m n : ℕ) (x y : List Bool) → gamma (m + 1) ++ x ≡ gamma (n + 1) ++ y → (m ≡ n) × (x ≡ y)
same_code m n x y e = let r = prefix_free_law (m + 1) (n + 1) x y (omega arith) (omega arith) e in (omega (arith, r.0), r.1)

-- a code has a bit
pub some_bit : (n : ℕ) → 0 < length (gamma (n + 1))
some_bit n = let l = length_law (n + 1) (omega arith) in omega arith

-- what is no error is a value
pub ok_from : {T E : Type 0} (r : Result T E) → (IsErr r → ⊥) → IsOk r
ok_from (Ok x) h = refl
ok_from (Err e) h = absurd (h refl)

-- how many positions or edges the production has
abbrev pub count : Grammar → Bool → ℕ → ℕ
count g true p = length (body_of g p)
count g false p = length (production_at g p).edges

-- the mark of a step, or of an end
abbrev pub mark_by : Bool → ℕ → ℕ → Mark
mark_by true p n = Into (record { production = p; position = n })
mark_by false p n = End p n

-- behind a step are the marks of a place at its target, and none behind an end
abbrev pub Goes : Grammar → Bool → ℕ → ℕ → List Bool → List Mark → Type 0
Goes g true p n left rest = BeginMarks g (target_of g (record { production = p; position = n })) false left rest
Goes g false p n left rest = rest ≡ []

-- a step or an end of the module m comes first
pub record IsPart (g : Grammar) (m : ℕ) (bits : List Bool) (marks : List Mark) : Type 0 where
  pub is_step : Bool
  pub production : ℕ
  pub of_it : IsProductionOf g production m
  pub number : ℕ
  pub in_range : number < count g is_step production
  pub left : List Bool
  pub is : bits ≡ is_step ∷ (gamma (alternative_of g production + 1) ++ (gamma (number + 1) ++ left))
  pub rest : List Mark
  pub marks_are : marks ≡ mark_by is_step production number ∷ rest
  pub goes : Goes g is_step production number left rest

spread : (b : Bool) (x y z w : List Bool) → ((b ∷ (x ++ y)) ++ z) ++ w ≡ b ∷ (x ++ (y ++ (z ++ w)))
spread b x y z w = simp append_assoc

module _ (g : Grammar) where
  -- behind a chain number, and at a module on no cycle, a step or an end comes first
  pub part_first : (m : ℕ) (told : Bool) (bits : List Bool) (marks : List Mark) → (told ≡ false → continuing g m ≡ None) → BeginMarks g m told bits marks → IsPart g m bits marks
  part_first m told bits marks none h = go marks h.of_it h.is
    where
      go : (ms : List Mark) → AreMarksAt g m told ms → bits ≡ flat_map (mark_bits g) ms ++ h.behind → IsPart g m bits ms
      go [] a e = absurd a
      go (AtInput p ∷ ms) a e = absurd a
      go (AtOutput p ∷ ms) a e = absurd a
      go (Chain c ∷ ms) a e = absurd (a.1 (none a.0))
      go (Into s ∷ ms) a e = record {
        is_step = true;
        production = s.production;
        of_it = (a.1.in_range, a.1.head);
        number = s.position;
        in_range = a.1.position;
        left = flat_map (mark_bits g) ms ++ h.behind;
        is = e ∙ spread true (gamma (alternative_of g s.production + 1)) (gamma (s.position + 1)) (flat_map (mark_bits g) ms) h.behind;
        rest = ms;
        marks_are = refl;
        goes = record { of_it = a.2; behind = h.behind; is = refl };
      }
      go (End p n ∷ ms) a e = record {
        is_step = false;
        production = p;
        of_it = a.1;
        number = n;
        in_range = a.2;
        left = flat_map (mark_bits g) ms ++ h.behind;
        is = e ∙ spread false (gamma (alternative_of g p + 1)) (gamma (n + 1)) (flat_map (mark_bits g) ms) h.behind;
        rest = ms;
        marks_are = refl;
        goes = a.3;
      }

  -- so some bit is left,
  pub part_bit : (m : ℕ) (bits : List Bool) (marks : List Mark) → IsPart g m bits marks → bits ≢ []
  part_bit m bits marks h e = let q = h.is in absurd (cc)

  -- then the alternative number of a production of the module,
  pub part_alternative : (m : ℕ) (b : Bool) (bits left : List Bool) (marks : List Mark) → IsPart g m bits marks → bits ≡ b ∷ left → HasNoAlternative g m left → ⊥
  part_alternative m b bits left marks h e none =
      let q = h.is in
      let t : left ≡ gamma (alternative_of g h.production + 1) ++ (gamma (h.number + 1) ++ h.left) = cc in
      none h.production (gamma (h.number + 1) ++ h.left) h.of_it t

  -- what is read of a step or an end is the one that comes first
  record IsSame (m p : ℕ) (b : Bool) (left : List Bool) (bits : List Bool) (marks : List Mark) (h : IsPart g m bits marks) : Type 0 where
    kind : h.is_step ≡ b
    production : h.production ≡ p
    left_is : left ≡ gamma (h.number + 1) ++ h.left

  same_part : (m p : ℕ) (b : Bool) (bits left : List Bool) (marks : List Mark) (h : IsPart g m bits marks) → IsProductionOf g p m → bits ≡ b ∷ (gamma (alternative_of g p + 1) ++ left) → IsSame m p b left bits marks h
  same_part m p b bits left marks h of_it e =
      let q = h.is in
      let k : h.is_step ≡ b = cc in
      let t : gamma (alternative_of g p + 1) ++ left ≡ gamma (alternative_of g h.production + 1) ++ (gamma (h.number + 1) ++ h.left) = cc in
      let r = same_code (alternative_of g p) (alternative_of g h.production) left (gamma (h.number + 1) ++ h.left) t in
      record { kind = k; production = same_alternative g h.production p h.of_it.0 of_it.0 (h.of_it.1 ∙ sym of_it.1) (sym r.0); left_is = r.1 }

  -- then the number of a position or an edge;
  pub part_number : (m p : ℕ) (b : Bool) (bits left : List Bool) (marks : List Mark) → IsPart g m bits marks → IsProductionOf g p m → bits ≡ b ∷ (gamma (alternative_of g p + 1) ++ left) →
      HasNoNumber (count g b p) left → ⊥
  part_number m p b bits left marks h of_it e none =
      let s = same_part m p b bits left marks h of_it e in
      none h.number h.left (subst (λ z. h.number < count g z p) s.kind (subst (λ z. h.number < count g h.is_step z) s.production h.in_range)) s.left_is

  -- and the mark of these is the first
  pub part_read : (m p n : ℕ) (b : Bool) (bits left : List Bool) (marks : List Mark) → IsPart g m bits marks → IsProductionOf g p m → bits ≡ b ∷ (gamma (alternative_of g p + 1) ++ (gamma (n + 1) ++ left)) →
      (rest : List Mark) × (marks ≡ mark_by b p n ∷ rest) × Goes g b p n left rest
  part_read m p n b bits left marks h of_it e =
      let s = same_part m p b bits (gamma (n + 1) ++ left) marks h of_it e in
      let r = same_code n h.number left h.left s.left_is in
      let k = s.kind in
      let d = s.production in (
        h.rest,
        h.marks_are ∙ (ap (λ z. mark_by z h.production h.number ∷ h.rest) k ∙ (ap (λ z. mark_by b z h.number ∷ h.rest) d ∙ ap (λ z. mark_by b p z ∷ h.rest) (sym r.0))),
        subst (λ z. Goes g b p n z h.rest) (sym r.1) (subst (λ z. Goes g b p z h.left h.rest) (sym r.0) (subst (λ z. Goes g b z h.number h.left h.rest) d (subst (λ z. Goes g z h.production h.number h.left h.rest) k h.goes))),
      )

  -- the module is one of the grammar
  pub marks_below : IsWellFormed g → (m : ℕ) (told : Bool) (marks : List Mark) → AreMarksAt g m told marks → m < length g.modules
  marks_below wf m told [] a = absurd a
  marks_below wf m told (AtInput p ∷ ms) a = absurd a
  marks_below wf m told (AtOutput p ∷ ms) a = absurd a
  marks_below wf m told (Chain c ∷ ms) a =
      ⊎_elim (λ e. absurd (a.1 e)) (λ q. let s = (continuing_is g m q.0 q.1).0 in subst (λ z. z < length g.modules) s.head (wf.heads q.0.production s.in_range)) (cases_option (continuing g m))
  marks_below wf m told (Into s ∷ ms) a = subst (λ z. z < length g.modules) a.1.head (wf.heads s.production a.1.in_range)
  marks_below wf m told (End p n ∷ ms) a = subst (λ z. z < length g.modules) a.1.1 (wf.heads p a.1.0)

  -- at a module on no cycle the marks are those behind a chain number
  pub no_chain : (m : ℕ) (bits : List Bool) (marks : List Mark) → continuing g m ≡ None → BeginMarks g m false bits marks → BeginMarks g m true bits marks
  no_chain m bits marks none h = record { of_it = go marks h.of_it; behind = h.behind; is = h.is }
    where
      go : (ms : List Mark) → AreMarksAt g m false ms → AreMarksAt g m true ms
      go [] a = absurd a
      go (AtInput p ∷ ms) a = absurd a
      go (AtOutput p ∷ ms) a = absurd a
      go (Chain c ∷ ms) a = absurd (a.1 none)
      go (Into s ∷ ms) a = ((λ e. none), a.1, a.2)
      go (End p n ∷ ms) a = ((λ e. none), a.1, a.2, a.3)

  -- at a module on a cycle a chain number comes first
  pub record IsChainFirst (m : ℕ) (bits : List Bool) (marks : List Mark) : Type 0 where
    pub chain : ℕ
    pub few : chain < 2 ^ 24
    pub left : List Bool
    pub is : bits ≡ gamma (chain + 1) ++ left
    pub rest : List Mark
    pub marks_are : marks ≡ Chain chain ∷ rest
    pub goes : BeginMarks g (after g chain m) true left rest

  pub chain_first : (m : ℕ) (bits : List Bool) (marks : List Mark) → continuing g m ≢ None → BeginMarks g m false bits marks → IsChainFirst m bits marks
  chain_first m bits marks on h = go marks h.of_it h.is
    where
      go : (ms : List Mark) → AreMarksAt g m false ms → bits ≡ flat_map (mark_bits g) ms ++ h.behind → IsChainFirst m bits ms
      go [] a e = absurd a
      go (AtInput p ∷ ms) a e = absurd a
      go (AtOutput p ∷ ms) a e = absurd a
      go (Chain c ∷ ms) a e = record {
        chain = c;
        few = a.2;
        left = flat_map (mark_bits g) ms ++ h.behind;
        is = e ∙ append_assoc (gamma (c + 1)) (flat_map (mark_bits g) ms) h.behind;
        rest = ms;
        marks_are = refl;
        goes = record { of_it = a.3; behind = h.behind; is = refl };
      }
      go (Into s ∷ ms) a e = absurd (on (a.0 refl))
      go (End p n ∷ ms) a e = absurd (on (a.0 refl))

  pub chain_number : (m : ℕ) (bits : List Bool) (marks : List Mark) → continuing g m ≢ None → BeginMarks g m false bits marks → HasNoNumber (2 ^ 24) bits → ⊥
  chain_number m bits marks on h none = let f = chain_first m bits marks on h in none f.chain f.left f.few f.is

  pub chain_read : (m c : ℕ) (bits left : List Bool) (marks : List Mark) → continuing g m ≢ None → BeginMarks g m false bits marks → bits ≡ gamma (c + 1) ++ left →
      (rest : List Mark) × (marks ≡ Chain c ∷ rest) × BeginMarks g (after g c m) true left rest
  chain_read m c bits left marks on h e =
      let f = chain_first m bits marks on h in
      let r = same_code c f.chain left f.left (sym e ∙ f.is) in (
        f.rest,
        f.marks_are ∙ ap (λ z. Chain z ∷ f.rest) (sym r.0),
        subst (λ z. BeginMarks g (after g c m) true z f.rest) (sym r.1) (subst (λ z. BeginMarks g (after g z m) true f.left f.rest) (sym r.0) f.goes),
      )
