-- What lines make, where the first of them are taken.
use Rattle.std.proofs.Common.{◌≡◌, ℕ, List, [], ◌∷◌, ◌++◌, sym, ap, ◌∙◌, subst, inl, inr, append_assoc, true≢false}
use Rattle.wf_io.specs.Lines.{Line, Tail, AtEnd, Broken, LongFile}
use Rattle.wf_lines.specs.LineStages.{LineEnds, TakesLine, StopsLine, AllTaken, OfLines, IsOneWay}

module _ {S E : Type 0} (ends : LineEnds E) (Takes : S → ℕ → List ℕ → S → List ℕ → Type 0) (Stops : S → ℕ → List ℕ → E → List ℕ → Type 0) where
  -- where the first lines are taken, those behind them go on from there
  pub lines_on : (Closes : S → E → List ℕ → Type 0) (tail : Tail) (ls more : List Line) (s q : S) (text : List ℕ) → AllTaken ends Takes Stops s ls q text → (e : E) (rest : List ℕ) → OfLines ends Takes Stops Closes q more tail e rest → OfLines ends Takes Stops Closes s (ls ++ more) tail e (text ++ rest)
  lines_on Closes tail [] more s q text h e rest o = subst (λ x. OfLines ends Takes Stops Closes s more tail e (x ++ rest)) (sym h.1) (subst (λ z. OfLines ends Takes Stops Closes z more tail e rest) h.0 o)
  lines_on Closes tail (l ∷ ls) more s q text h e rest o = inr (h.0, h.1, h.2 ++ rest, h.3, lines_on Closes tail ls more h.0 q h.2 h.4 e rest o, ap (λ x. x ++ rest) h.5 ∙ append_assoc h.1 h.2 rest)

  -- and where these are taken too, all are
  pub all_on : (ls more : List Line) (s q r : S) (text rest : List ℕ) → AllTaken ends Takes Stops s ls q text → AllTaken ends Takes Stops q more r rest → AllTaken ends Takes Stops s (ls ++ more) r (text ++ rest)
  all_on [] more s q r text rest h o = subst (λ x. AllTaken ends Takes Stops s more r (x ++ rest)) (sym h.1) (subst (λ z. AllTaken ends Takes Stops z more r rest) h.0 o)
  all_on (l ∷ ls) more s q r text rest h o = (h.0, h.1, h.2 ++ rest, h.3, all_on ls more h.0 q r h.2 rest h.4 o, ap (λ x. x ++ rest) h.5 ∙ append_assoc h.1 h.2 rest)

  module _ (IsSound : S → Type 0) (one : IsOneWay IsSound Takes Stops) where
    -- a line that is taken does not stop the stage
    pub taken_not_stopped : (s : S) (l : Line) (q : S) (p : List ℕ) (e : E) (t : List ℕ) → IsSound s → TakesLine ends Takes Stops s l q p → StopsLine ends Takes Stops s l e t → ⊥
    taken_not_stopped s l q p e t ok h (inl long) = true≢false (sym long.0 ∙ h.0)
    taken_not_stopped s l q p e t ok h (inr o) = one.apart s l.number _ q p e t ok h.1 o.1

    -- it stops it in one way
    pub stopped_once : (s : S) (l : Line) (d e : E) (t u : List ℕ) → IsSound s → StopsLine ends Takes Stops s l d t → StopsLine ends Takes Stops s l e u → (d ≡ e) × (t ≡ u)
    stopped_once s l d e t u ok (inl p) (inl q) = (p.1 ∙ sym q.1, p.2 ∙ sym q.2)
    stopped_once s l d e t u ok (inl p) (inr q) = absurd (true≢false (sym p.0 ∙ q.0))
    stopped_once s l d e t u ok (inr p) (inl q) = absurd (true≢false (sym q.0 ∙ p.0))
    stopped_once s l d e t u ok (inr p) (inr q) = one.stopped s l.number _ d e t u ok p.1 q.1

    -- lines that are taken leave a sound state
    pub sound_on : (ls : List Line) (s q : S) (text : List ℕ) → IsSound s → AllTaken ends Takes Stops s ls q text → IsSound q
    sound_on [] s q text ok h = subst IsSound (sym h.0) ok
    sound_on (l ∷ ls) s q text ok h = sound_on ls h.0 q h.2 (one.sound s _ _ h.0 h.1 ok h.3.1) h.4

    -- where the first lines are taken, what all make begins with their text, and those behind them go on from there
    pub lines_begin : (Closes : S → E → List ℕ → Type 0) (tail : Tail) (ls more : List Line) (s q : S) (text : List ℕ) → IsSound s → AllTaken ends Takes Stops s ls q text → (e : E) (t : List ℕ) → OfLines ends Takes Stops Closes s (ls ++ more) tail e t → (rest : List ℕ) × (t ≡ text ++ rest) × OfLines ends Takes Stops Closes q more tail e rest
    lines_begin Closes tail [] more s q text ok h e t o = (t, sym (ap (λ x. x ++ t) h.1), subst (λ z. OfLines ends Takes Stops Closes z more tail e t) (sym h.0) o)
    lines_begin Closes tail (l ∷ ls) more s q text ok h e t (inl o) = absurd (taken_not_stopped s l h.0 h.1 e t ok h.3 o)
    lines_begin Closes tail (l ∷ ls) more s q text ok h e t (inr o) =
        let same = one.taken s _ _ h.0 o.0 h.1 o.1 ok h.3.1 o.3.1 in
        let r = lines_begin Closes tail ls more h.0 q h.2 (one.sound s _ _ h.0 h.1 ok h.3.1) h.4 e o.2 (subst (λ z. OfLines ends Takes Stops Closes z (ls ++ more) tail e o.2) (sym same.0) o.4) in
        (r.0, o.5 ∙ (ap (λ x. x ++ o.2) (sym same.1) ∙ (ap (λ x. h.1 ++ x) r.1 ∙ (sym (append_assoc h.1 h.2 r.0) ∙ ap (λ x. x ++ r.0) (sym h.5)))), r.2)

    -- where the first line stops the stage, all make its text
    pub stopped_here : (Closes : S → E → List ℕ → Type 0) (tail : Tail) (l : Line) (more : List Line) (s : S) (d : E) (piece : List ℕ) → IsSound s → StopsLine ends Takes Stops s l d piece → (e : E) (t : List ℕ) → OfLines ends Takes Stops Closes s (l ∷ more) tail e t → (d ≡ e) × (piece ≡ t)
    stopped_here Closes tail l more s d piece ok h e t (inl o) = stopped_once s l d e piece t ok h o
    stopped_here Closes tail l more s d piece ok h e t (inr o) = absurd (taken_not_stopped s l o.0 o.1 d piece ok o.3 h)

    -- where the first line is taken, all make its text first
    pub taken_here : (Closes : S → E → List ℕ → Type 0) (tail : Tail) (l : Line) (more : List Line) (s q : S) (piece : List ℕ) → IsSound s → TakesLine ends Takes Stops s l q piece → (e : E) (t : List ℕ) → OfLines ends Takes Stops Closes s (l ∷ more) tail e t → (rest : List ℕ) × (t ≡ piece ++ rest)
    taken_here Closes tail l more s q piece ok h e t (inl o) = absurd (taken_not_stopped s l q piece e t ok h o)
    taken_here Closes tail l more s q piece ok h e t (inr o) = (o.2, o.5 ∙ ap (λ x. x ++ o.2) (sym (one.taken s _ _ q o.0 piece o.1 ok h.1 o.3.1).1))

    -- lines end in one way and make one text, where the end of the file does
    pub one_ending : (Closes : S → E → List ℕ → Type 0) → ((s : S) (d e : E) (t u : List ℕ) → IsSound s → Closes s d t → Closes s e u → (d ≡ e) × (t ≡ u)) →
        (tail : Tail) (ls : List Line) (s : S) (d e : E) (t u : List ℕ) → IsSound s → OfLines ends Takes Stops Closes s ls tail d t → OfLines ends Takes Stops Closes s ls tail e u → (d ≡ e) × (t ≡ u)
    one_ending Closes closed AtEnd [] s d e t u ok p q = closed s d e t u ok p q
    one_ending Closes closed Broken [] s d e t u ok p q = (p.0 ∙ sym q.0, p.1 ∙ sym q.1)
    one_ending Closes closed (LongFile n) [] s d e t u ok p q = (p.0 ∙ sym q.0, p.1 ∙ sym q.1)
    one_ending Closes closed tail (l ∷ ls) s d e t u ok (inl p) (inl q) = stopped_once s l d e t u ok p q
    one_ending Closes closed tail (l ∷ ls) s d e t u ok (inl p) (inr q) = absurd (taken_not_stopped s l q.0 q.1 d t ok q.3 p)
    one_ending Closes closed tail (l ∷ ls) s d e t u ok (inr p) (inl q) = absurd (taken_not_stopped s l p.0 p.1 e u ok p.3 q)
    one_ending Closes closed tail (l ∷ ls) s d e t u ok (inr p) (inr q) =
        let same = one.taken s _ _ p.0 q.0 p.1 q.1 ok p.3.1 q.3.1 in
        let r = one_ending Closes closed tail ls p.0 d e p.2 q.2 (one.sound s _ _ p.0 p.1 ok p.3.1) p.4 (subst (λ z. OfLines ends Takes Stops Closes z ls tail e q.2) (sym same.0) q.4) in
        (r.0, p.5 ∙ (ap (λ x. p.1 ++ x) r.1 ∙ (ap (λ x. x ++ q.2) same.1 ∙ sym q.5)))

  -- what lines make is what they make where the end of the file is closed in another way that it allows
  pub closes_as : (Closes Other : S → E → List ℕ → Type 0) → ((s : S) (e : E) (t : List ℕ) → Closes s e t → Other s e t) → (tail : Tail) (ls : List Line) (s : S) (e : E) (t : List ℕ) → OfLines ends Takes Stops Closes s ls tail e t → OfLines ends Takes Stops Other s ls tail e t
  closes_as Closes Other as_other AtEnd [] s e t h = as_other s e t h
  closes_as Closes Other as_other Broken [] s e t h = h
  closes_as Closes Other as_other (LongFile n) [] s e t h = h
  closes_as Closes Other as_other tail (l ∷ ls) s e t (inl h) = inl h
  closes_as Closes Other as_other tail (l ∷ ls) s e t (inr h) = inr (h.0, h.1, h.2, h.3, closes_as Closes Other as_other tail ls h.0 e h.2 h.4, h.5)
