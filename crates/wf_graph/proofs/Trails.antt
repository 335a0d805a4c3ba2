-- The routes of a search: each is the first of the shortest to its vertex.
use Rattle.std.proofs.Common.{◌≡◌, ℕ, zero, suc, ◌+◌, ◌<◌, ◌≤◌, ◌⊎◌, List, [], ◌∷◌, ◌++◌, length, get_or, refl, sym, ap, ◌∙◌, subst, inl, inr, ⊎_elim, arith, append_assoc, append-nil, length-append}
use Rattle.std.proofs.lemmas.Bool.{cases_lt, cases_eq}
use Rattle.wf_model.specs.Lists.{IsIn}
use Rattle.wf_graph.specs.Routes.{IsRoute, place_of, choices_of, IsFirstShortest}
use Rattle.wf_graph.specs.Trails.{Traced, begun, further, IsTrail, IsFirstMet}
use Rattle.wf_graph.proofs.Orders.{IsBefore, IsNotAfter, after_same, before_after, after_through, before_through, before_more, before_last, after_more, after_longer}
use Rattle.wf_graph.proofs.Routes.{end_of, end_more, route_more, choices_more, choices-append, choices-length}

-- one place has one route
pub one_trace : {queue came : List ℕ} {j : ℕ} {us ws : List ℕ} → Traced queue came j us → Traced queue came j ws → us ≡ ws
one_trace (begun e f) (begun d g) = f ∙ sym g
one_trace (begun e f) (further p t g) = absurd (omega arith)
one_trace (further p t f) (begun d g) = absurd (omega arith)
one_trace {queue} {came} {j} (further p t f) (further q s g) = f ∙ (ap (λ l. l ++ get_or queue j 0 ∷ []) (one_trace t s) ∙ sym g)

module _ (row : ℕ → List ℕ) (from : ℕ) (queue came : List ℕ) (done : ℕ) (t : IsTrail row from queue came done) where
  abbrev choices : List ℕ → List ℕ
  choices = choices_of row from

  ends : {j : ℕ} {ws : List ℕ} → Traced queue came j ws → end_of from ws ≡ get_or queue j 0
  ends (begun e f) = ap (end_of from) f ∙ (sym t.first ∙ ap (λ k. get_or queue k 0) (sym e))
  ends {j} (further {vs = vs} p s f) = ap (end_of from) f ∙ end_more from vs (get_or queue j 0)

  pub traced_route : {j : ℕ} {ws : List ℕ} → j < length queue → Traced queue came j ws → IsRoute row from ws (get_or queue j 0)
  traced_route {j} l (begun e f) = subst (λ us. IsRoute row from us (get_or queue j 0)) (sym f) (sym t.first ∙ ap (λ k. get_or queue k 0) (sym e))
  traced_route {j} l (further {vs = vs} p s f) =
      let b = t.back j p l in
      let h : get_or came j 0 < length queue = omega arith in
      subst (λ us. IsRoute row from us (get_or queue j 0)) (sym f) (route_more row from (get_or queue (get_or came j 0) 0) vs (get_or queue j 0) (traced_route h s) (t.led j p l))

  pub traced_some : {j : ℕ} {ws : List ℕ} → 0 < j → Traced queue came j ws → 0 < length ws
  traced_some p (begun e f) = absurd (omega arith)
  traced_some {j} p (further {vs = vs} q s f) = omega (arith, ap length f, length-append vs (get_or queue j 0 ∷ []))

  -- each place has a route
  traced_below : (n j : ℕ) → j < n → j < length queue → (ws : List ℕ) × Traced queue came j ws
  traced_below zero j l h = absurd (omega arith)
  traced_below (suc n) zero l h = ([], begun refl refl)
  traced_below (suc n) (suc j) l h =
      let p : 0 < suc j = omega arith in
      let b = t.back (suc j) p h in
      let m : get_or came (suc j) 0 < n = omega arith in
      let k : get_or came (suc j) 0 < length queue = omega arith in
      let r = traced_below n (get_or came (suc j) 0) m k in
      (r.0 ++ get_or queue (suc j) 0 ∷ [], further p r.1 refl)

  pub traced : (j : ℕ) → j < length queue → (ws : List ℕ) × Traced queue came j ws
  traced j h = let l : j < suc j = omega arith in traced_below (suc j) j l h

  -- the choices of the route to a place, by those of the route to where it was met
  choices_on : (h j : ℕ) (vs ws : List ℕ) → Traced queue came h vs → ws ≡ vs ++ get_or queue j 0 ∷ [] → choices ws ≡ choices vs ++ place_of (get_or queue j 0) (row (get_or queue h 0)) ∷ []
  choices_on h j vs ws s f = ap choices f ∙ (choices_more row from vs (get_or queue j 0) ∙ ap (λ v. choices vs ++ place_of (get_or queue j 0) (row v) ∷ []) (ends s))

  -- the route to an earlier place comes before that to a later one
  before_below : (n i j : ℕ) → j < n → i < j → j < length queue → {us ws : List ℕ} → Traced queue came i us → Traced queue came j ws → IsBefore (choices us) (choices ws)
  before_below zero i j l h k s r = absurd (omega arith)
  before_below (suc n) i j l h k s (begun e f) = absurd (omega arith)
  before_below (suc n) i j l h k {us} {ws} (begun d g) (further {vs = vs} p r f) =
      let a : length (choices us) ≡ 0 = choices-length row from us ∙ ap length g in
      let b : length (choices ws) ≡ length vs + 1 = choices-length row from ws ∙ (ap length f ∙ length-append vs (get_or queue j 0 ∷ [])) in
      inl (omega arith)
  before_below (suc n) i j l h k {us} {ws} (further {vs = xs} q s g) (further {vs = vs} p r f) =
      let x = get_or came i 0 in
      let y = get_or came j 0 in
      let b = t.back j p k in
      let small : y < n = omega arith in
      let there : y < length queue = omega arith in
      let rises = t.rising i j q h k in
      ⊎_elim
      (λ lt. subst (λ cs. IsBefore cs (choices ws)) (sym (choices_on x i xs us s g)) (subst (IsBefore _) (sym (choices_on y j vs ws r f)) (before_more (choices xs) (choices vs) _ _ (before_below n x y small lt there s r))))
      (λ ge.
      let same : x ≡ y = omega arith in
      let one : xs ≡ vs = one_trace (subst (λ z. Traced queue came z xs) same s) r in
      let left : choices us ≡ choices vs ++ place_of (get_or queue i 0) (row (get_or queue y 0)) ∷ [] = choices_on y i vs us r (subst (λ zs. us ≡ zs ++ get_or queue i 0 ∷ []) one g) in
      subst (λ cs. IsBefore cs (choices ws)) (sym left) (subst (IsBefore _) (sym (choices_on y j vs ws r f)) (before_last (choices vs) _ _ (t.order i j q h k same))))
      (cases_lt x y)

  before : (i j : ℕ) → i < j → j < length queue → {us ws : List ℕ} → Traced queue came i us → Traced queue came j ws → IsBefore (choices us) (choices ws)
  before i j h k s r = let l : j < suc j = omega arith in before_below (suc j) i j l h k s r

  -- what a place that was gone on from leads to was met by a route that does not come after that over this place
  record IsMetBy (k : ℕ) (us : List ℕ) (w : ℕ) : Type 0 where
    at : ℕ
    behind : 0 < at
    there : at < length queue
    is : get_or queue at 0 ≡ w
    way : List ℕ
    trace : Traced queue came at way
    early : IsNotAfter (choices way) (choices us ++ place_of w (row (get_or queue k 0)) ∷ [])

  met_by : done ≤ length queue → (k : ℕ) {us : List ℕ} → k < done → Traced queue came k us → (w : ℕ) → IsIn w (row (get_or queue k 0)) → IsMetBy k us w
  met_by within k {us} h s w i =
      let c = t.closed k h w i in
      let r = traced c.0 c.2 in
      record { at = c.0; behind = c.1; there = c.2; is = c.3; way = r.0; trace = r.1; early = early_by c.0 c.1 c.2 c.3 c.4 r.1 }
    where
      early_by : (j : ℕ) → 0 < j → j < length queue → get_or queue j 0 ≡ w → get_or came j 0 ≤ k → {ws : List ℕ} → Traced queue came j ws → IsNotAfter (choices ws) (choices us ++ place_of w (row (get_or queue k 0)) ∷ [])
      early_by j p l e m (begun d f) = absurd (omega arith)
      early_by j p l e m {ws} (further {vs = vs} q r f) =
          let there : k < length queue = omega arith in
          subst (λ cs. IsNotAfter cs (choices us ++ place_of w (row (get_or queue k 0)) ∷ [])) (sym (choices_on (get_or came j 0) j vs ws r f ∙ ap (λ v. choices vs ++ place_of v (row (get_or queue (get_or came j 0) 0)) ∷ []) e)) (⊎_elim
          (λ lt. before_after _ _ (before_more (choices vs) (choices us) _ _ (before (get_or came j 0) k lt there r s)))
          (λ ge.
          let same : get_or came j 0 ≡ k = omega arith in
          let one : vs ≡ us = one_trace (subst (λ z. Traced queue came z vs) same r) s in
          subst (λ zs. IsNotAfter (choices vs ++ place_of w (row (get_or queue (get_or came j 0) 0)) ∷ []) (choices zs ++ place_of w (row (get_or queue k 0)) ∷ [])) one
          (subst (λ z. IsNotAfter (choices vs ++ place_of w (row (get_or queue (get_or came j 0) 0)) ∷ []) (choices vs ++ place_of w (row (get_or queue z 0)) ∷ [])) same (after_same _)))
          (cases_lt (get_or came j 0) k))

  -- where all have been gone on from, what a route leads to was met
  pub met_along : length queue ≤ done → (to : ℕ) (us : List ℕ) (i : ℕ) → i < length queue → 0 < length us → IsRoute row (get_or queue i 0) us to → (j : ℕ) × (0 < j) × (j < length queue) × (get_or queue j 0 ≡ to)
  met_along all to [] i l s r = absurd (omega arith)
  met_along all to (w ∷ []) i l s r =
      let h : i < done = omega arith in
      let c = t.closed i h w r.0 in
      (c.0, c.1, c.2, c.3 ∙ r.1)
  met_along all to (w ∷ u ∷ us) i l s r =
      let h : i < done = omega arith in
      let c = t.closed i h w r.0 in
      let more : 0 < length (u ∷ us) = omega arith in
      met_along all to (u ∷ us) c.0 c.2 more (subst (λ v. IsRoute row v (u ∷ us) to) (sym c.3) r.1)

  module _ (within : done ≤ length queue) (to end : ℕ) (met : IsFirstMet queue to end) (ws : List ℕ) (way : Traced queue came end ws) where
    -- a route that goes on from a place that was not gone on from comes after
    past : (i : ℕ) {ps : List ℕ} → done ≤ i → i < length queue → Traced queue came i ps → (xs cs : List ℕ) (p : ℕ) → IsNotAfter (choices ps) (choices xs) → IsNotAfter (choices ws) (choices xs ++ p ∷ cs)
    past i {ps} h l s xs cs p a = go way
      where
        go : {zs : List ℕ} → Traced queue came end zs → IsNotAfter (choices ws) (choices xs ++ p ∷ cs)
        go (begun e f) = let b = met.behind in absurd (omega arith)
        go {zs} (further {vs = vs} q r f) =
            let g = t.gone end q met.there in
            let lt : get_or came end 0 < i = omega arith in
            let b = before_more (choices vs) (choices xs) (place_of (get_or queue end 0) (row (get_or queue (get_or came end 0) 0))) p (before_through (choices vs) (choices ps) (choices xs) (before (get_or came end 0) i lt l r s) a) in
            let same : ws ≡ zs = one_trace way (further q r f) in
            subst (λ us. IsNotAfter (choices ws) us) (append_assoc (choices xs) (p ∷ []) cs)
            (after_longer (choices ws) (choices xs ++ p ∷ []) cs (subst (λ us. IsNotAfter us (choices xs ++ p ∷ [])) (sym (ap choices same ∙ choices_on (get_or came end 0) end vs zs r f)) (before_after _ _ b)))

    -- no route to the vertex comes before the one that was found
    earliest : (us : List ℕ) (i : ℕ) {ps : List ℕ} → i < length queue → Traced queue came i ps → (xs : List ℕ) → end_of from xs ≡ get_or queue i 0 → IsNotAfter (choices ps) (choices xs)
        → IsRoute row (get_or queue i 0) us to → (0 < i) ⊎ (0 < length us) → IsNotAfter (choices ws) (choices (xs ++ us))
    earliest [] i {ps} l s xs e a r (inr h) = absurd (omega arith)
    earliest [] i {ps} l s xs e a r (inl h) =
        subst (λ us. IsNotAfter (choices ws) (choices us)) (sym (append-nil xs)) (⊎_elim
        (λ lt. absurd (met.first i h lt r))
        (λ ge. ⊎_elim
        (λ (d : i ≡ end). subst (λ us. IsNotAfter (choices us) (choices xs)) (one_trace (subst (λ z. Traced queue came z ps) d s) way) a)
        (λ d. let lt : end < i = omega (arith, d) in before_after _ _ (before_through (choices ws) (choices ps) (choices xs) (before end i lt l way s) a))
        (cases_eq i end))
        (cases_lt i end))
    earliest (w ∷ us) i {ps} l s xs e a r o =
        let p = place_of w (row (get_or queue i 0)) in
        let at_end : place_of w (row (end_of from xs)) ≡ p = ap (λ v. place_of w (row v)) e in
        ⊎_elim
        (λ lt.
        let m = met_by within i lt s w r.0 in
        let le : p ≤ p = omega arith in
        let b = after_through _ _ _ m.early (after_more (choices ps) (choices xs) p p a le) in
        let c : choices (xs ++ w ∷ []) ≡ choices xs ++ p ∷ [] = choices_more row from xs w ∙ ap (λ z. choices xs ++ z ∷ []) at_end in
        subst (λ vs. IsNotAfter (choices ws) (choices vs)) (append_assoc xs (w ∷ []) us)
        (earliest us m.at m.there m.trace (xs ++ w ∷ []) (end_more from xs w ∙ sym m.is) (subst (IsNotAfter (choices m.way)) (sym c) b) (subst (λ v. IsRoute row v us to) (sym m.is) r.1) (inl m.behind)))
        (λ ge.
        let c : choices (xs ++ w ∷ us) ≡ choices xs ++ p ∷ choices_of row w us = choices-append row from xs (w ∷ us) ∙ ap (λ z. choices xs ++ z ∷ choices_of row w us) at_end in
        subst (IsNotAfter (choices ws)) (sym c) (past i ge l s xs (choices_of row w us) p a))
        (cases_lt i done)

    pub traced_first : 0 < length queue → IsFirstShortest row from to ws
    traced_first some = record {
      some = traced_some met.behind way;
      route = subst (IsRoute row from ws) met.is (traced_route met.there way);
      shortest = λ us p r. ⊎_elim (λ (l : length (choices ws) < length (choices us)). omega (arith, choices-length row from ws, choices-length row from us)) (λ s. omega (arith, s.0, choices-length row from ws, choices-length row from us)) (of us p r);
      first = λ us r e. ⊎_elim (λ (l : length (choices ws) < length (choices us)). absurd (omega (arith, e, choices-length row from ws, choices-length row from us))) (λ s. s.1) (of us (let z = traced_some met.behind way in omega (arith, e)) r);
    }
      where
        of : (us : List ℕ) → 0 < length us → IsRoute row from us to → IsNotAfter (choices ws) (choices us)
        of us p r = earliest us 0 some (begun refl refl) [] (sym t.first) (after_same []) (subst (λ v. IsRoute row v us to) (sym t.first) r) (inr p)
