-- What lines make, and what lines that go on from them make.
use Rattle.std.proofs.Common.{◌≡◌, ◌⊎◌, ℕ, true, List, [], ◌∷◌, ◌++◌, sym, ap, ◌∙◌, subst, inl, inr, append-nil, append_assoc, true≢false}
use Rattle.wf_io.specs.Lines.{Line, Tail, AtEnd, Broken, LongFile, is_too_long}
use Rattle.wf_lines.specs.LineStages.{LineEnds, TakesLine, StopsLine, OfLines, IsOneWay}
use Rattle.wf_lines.proofs.LineStages.{taken_not_stopped, stopped_once}

-- Lines go on from the first ones: they begin with these; or a line is too long, and so is the one in its place, which has its number
abbrev pub GoOnFrom : List Line → List Line → Type 0
GoOnFrom [] ms = Unit {0}
GoOnFrom (l ∷ ls) [] = ⊥
GoOnFrom (l ∷ ls) (m ∷ ms) = ((l ≡ m) × GoOnFrom ls ms) ⊎ ((is_too_long l.raw ≡ true) × (is_too_long m.raw ≡ true) × (l.number ≡ m.number))

module _ {S E : Type 0} (ends : LineEnds E) (Takes : S → ℕ → List ℕ → S → List ℕ → Type 0) (Stops : S → ℕ → List ℕ → E → List ℕ → Type 0) (IsSound : S → Type 0) (one : IsOneWay IsSound Takes Stops) (Closes Other : S → E → List ℕ → Type 0) (longer : Tail) where
  -- a text begins with no text, and with itself
  begins_none : (t u : List ℕ) → t ≡ [] → (rest : List ℕ) × (u ≡ t ++ rest)
  begins_none t u none = (u, sym (ap (λ x. x ++ u) none))

  begins_same : (t u : List ℕ) → t ≡ u → (rest : List ℕ) × (u ≡ t ++ rest)
  begins_same t u same = ([], sym same ∙ sym (append-nil t))

  -- a line that is too long makes nothing
  long_nothing : (tail : Tail) (l : Line) (ls : List Line) (s : S) (d : E) (t : List ℕ) → is_too_long l.raw ≡ true → OfLines ends Takes Stops Closes s (l ∷ ls) tail d t → t ≡ []
  long_nothing tail l ls s d t long (inl (inl h)) = h.2
  long_nothing tail l ls s d t long (inl (inr h)) = absurd (true≢false (sym long ∙ h.0))
  long_nothing tail l ls s d t long (inr h) = absurd (true≢false (sym long ∙ h.3.0))

  module _ (nothing : (s : S) (e : E) (t : List ℕ) → Closes s e t → t ≡ []) where
    -- where the end of the first lines makes nothing, what they make begins what lines make that go on from them
    pub lines_grow : (tail : Tail) (ls ms : List Line) (s : S) (d e : E) (t u : List ℕ) → IsSound s → GoOnFrom ls ms → OfLines ends Takes Stops Closes s ls tail d t → OfLines ends Takes Stops Other s ms longer e u → (rest : List ℕ) × (u ≡ t ++ rest)
    lines_grow AtEnd [] ms s d e t u ok on p q = begins_none t u (nothing s d t p)
    lines_grow Broken [] ms s d e t u ok on p q = begins_none t u p.1
    lines_grow (LongFile n) [] ms s d e t u ok on p q = begins_none t u p.1
    lines_grow tail (l ∷ ls) [] s d e t u ok on p q = absurd on
    lines_grow tail (l ∷ ls) (m ∷ ms) s d e t u ok (inr on) p q = begins_none t u (long_nothing tail l ls s d t on.0 p)
    lines_grow tail (l ∷ ls) (m ∷ ms) s d e t u ok (inl on) (inl p) (inl q) =
        begins_same t u (stopped_once ends Takes Stops IsSound one s l d e t u ok p (subst (λ z. StopsLine ends Takes Stops s z e u) (sym on.0) q)).1
    lines_grow tail (l ∷ ls) (m ∷ ms) s d e t u ok (inl on) (inl p) (inr q) =
        absurd (taken_not_stopped ends Takes Stops IsSound one s l q.0 q.1 d t ok (subst (λ z. TakesLine ends Takes Stops s z q.0 q.1) (sym on.0) q.3) p)
    lines_grow tail (l ∷ ls) (m ∷ ms) s d e t u ok (inl on) (inr p) (inl q) =
        absurd (taken_not_stopped ends Takes Stops IsSound one s l p.0 p.1 e u ok p.3 (subst (λ z. StopsLine ends Takes Stops s z e u) (sym on.0) q))
    lines_grow tail (l ∷ ls) (m ∷ ms) s d e t u ok (inl on) (inr p) (inr q) =
        let taken = subst (λ z. TakesLine ends Takes Stops s z q.0 q.1) (sym on.0) q.3 in
        let same = one.taken s _ _ p.0 q.0 p.1 q.1 ok p.3.1 taken.1 in
        let r = lines_grow tail ls ms p.0 d e p.2 q.2 (one.sound s _ _ p.0 p.1 ok p.3.1) on.1 p.4 (subst (λ z. OfLines ends Takes Stops Other z ms longer e q.2) (sym same.0) q.4) in
        (r.0, q.5 ∙ (ap (λ x. x ++ q.2) (sym same.1) ∙ (ap (λ x. p.1 ++ x) r.1 ∙ (sym (append_assoc p.1 p.2 r.0) ∙ ap (λ x. x ++ r.0) (sym p.5)))))
