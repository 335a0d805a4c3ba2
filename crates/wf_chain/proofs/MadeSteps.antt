-- The items that are produced at an instance, one after the other.
use Rattle.std.proofs.Common.{◌≡◌, ℕ, zero, suc, ◌+◌, ◌-◌, ◌<◌, ◌≤◌, Bool, true, false, cond, List, [], ◌∷◌, length, get_or, set, Option, Some, None, refl, sym, ap, subst, ◌∙◌, ⊎_elim, arith, eq-eqb, length-set}
use Rattle.std.specs.Prelude.{filter, MatchOption}
use Rattle.std.proofs.lemmas.Bool.{cases_Bool, cases_eq, cases_lt, eqb-true}
use Rattle.std.proofs.lemmas.Option.{none-some}
use Rattle.std.proofs.lemmas.List.{get_or_past, get_or-set_same, get_or-set_other}
use Rattle.wf_model.specs.Lists.{IsIn, numbers_from}
use Rattle.wf_model.proofs.Lists.{in_filter_from}
use Rattle.wf_model.proofs.Level.{in_numbers}
use Rattle.wf_flat.proofs.Rows.{numbers_step}
use Rattle.wf_flat.specs.declared.graph.Port.{Port as PortHeld}
use Rattle.wf_chain.specs.ViewedRuns.{ViewedRunValue}
use Rattle.wf_chain.specs.ItemGraphs.{is_made_at, made_behind, made_with, IsNextMade, AreMadeFrom, is_joined, led_in, led_to, led_on}

module _ (produced : List (Option PortHeld)) (m : ℕ) where
  abbrev is_at : ℕ → Bool
  is_at w = is_made_at m (get_or produced w None)

  behind_step : (a : ℕ) → a < length produced → made_behind produced m a ≡ cond (is_at a) (a ∷ made_behind produced m (a + 1)) (made_behind produced m (a + 1))
  behind_step a h =
      let e : length produced - a ≡ suc (length produced - (a + 1)) = omega arith in
      ap (filter is_at) (numbers_step a (length produced - a) (length produced - (a + 1)) e)

  pub behind_past : (a : ℕ) → length produced ≤ a → made_behind produced m a ≡ []
  behind_past a h = let e : length produced - a ≡ 0 = omega arith in ap (λ n. filter is_at (numbers_from a n)) e

  pub behind_here : (a : ℕ) → a < length produced → is_at a ≡ true → made_behind produced m a ≡ a ∷ made_behind produced m (a + 1)
  behind_here a h e = behind_step a h ∙ ap (λ b. cond b (a ∷ made_behind produced m (a + 1)) (made_behind produced m (a + 1))) e

  behind_passed : (a : ℕ) → is_at a ≡ false → made_behind produced m a ≡ made_behind produced m (a + 1)
  behind_passed a e = ⊎_elim
      (λ (l : a < length produced). behind_step a l ∙ ap (λ b. cond b (a ∷ made_behind produced m (a + 1)) (made_behind produced m (a + 1))) e)
      (λ (l : length produced ≤ a). let past : length produced ≤ a + 1 = omega arith in behind_past a l ∙ sym (behind_past (a + 1) past))
      (cases_lt a (length produced))

  -- those before the next one are passed over
  behind_far : (d a : ℕ) → ((w : ℕ) → a ≤ w → w < a + d → is_at w ≡ false) → made_behind produced m a ≡ made_behind produced m (a + d)
  behind_far zero a none = let e : a ≡ a + 0 = omega arith in ap (made_behind produced m) e
  behind_far (suc d) a none =
      let e : (a + 1) + d ≡ a + suc d = omega arith in
      behind_passed a (none a (omega arith) (omega arith)) ∙ (behind_far d (a + 1) (λ w l h. none w (omega arith) (omega arith)) ∙ ap (made_behind produced m) e)

  behind_same : (a j : ℕ) → IsNextMade produced m a j → made_behind produced m a ≡ made_behind produced m j
  behind_same a j h =
      let low : a ≤ j = h.behind in
      let e : a + (j - a) ≡ j = omega arith in
      behind_far (j - a) a (λ w l k. h.none w l (subst (λ n. w < n) e k)) ∙ ap (made_behind produced m) e

  -- where the first item is, there are the others
  pub behind_next : (a j : ℕ) → IsNextMade produced m a j → made_behind produced m a ≡ made_with produced (get_or produced j None) j
  behind_next a j h = behind_same a j h ∙ ⊎_elim here past (cases_lt j (length produced))
    where
      with_output : (o : Option PortHeld) → is_made_at m o ≡ true → made_behind produced m j ≡ made_with produced o j
      with_output None e = absurd (cc)
      with_output (Some q) e = ap (λ n. made_behind produced n j) (sym (eqb-true q.instance m e))

      here : j < length produced → made_behind produced m j ≡ made_with produced (get_or produced j None) j
      here l = with_output (get_or produced j None) (h.made l)

      past : length produced ≤ j → made_behind produced m j ≡ made_with produced (get_or produced j None) j
      past l = behind_past j l ∙ ap (λ o. made_with produced o j) (sym (get_or_past produced j None l))

-- they are items that are told
pub made_below : (produced : List (Option PortHeld)) (m w : ℕ) → IsIn w (made_behind produced m 0) → w < length produced
made_below produced m w h =
    let r = in_filter_from (λ k. is_made_at m (get_or produced k None)) w (numbers_from 0 (length produced - 0)) h in
    let low = in_numbers w 0 (length produced - 0) r.0 in
    omega (arith, low)

-- an output that is there is that of an item
pub there_below : (produced : List (Option PortHeld)) (k : ℕ) (q : PortHeld) → get_or produced k None ≡ Some q → k < length produced
there_below produced k q e = ⊎_elim (λ (l : k < length produced). l) (λ (l : length produced ≤ k). absurd (none-some q (sym (get_or_past produced k None l) ∙ e))) (cases_lt k (length produced))

module _ (v : ViewedRunValue) (produced : List (Option PortHeld)) (p : PortHeld) where
  -- an input leads to those of the items of its instance to which it is joined
  pub led_first : (j : ℕ) → IsNextMade produced p.instance 0 j → led_on v produced p j ≡ led_to v produced (Some p)
  led_first j h = sym (ap (led_in v produced p) (behind_next produced p.instance 0 j h))

  pub led_nothing : (at : ℕ) → get_or produced at None ≡ None → led_on v produced p at ≡ []
  led_nothing at e = ap (λ o. led_in v produced p (made_with produced o at)) e

  module _ (at j : ℕ) (q : PortHeld) (is_q : get_or produced at None ≡ Some q) (h : IsNextMade produced q.instance (at + 1) j) where
    -- at an item it goes on with the next one
    led_here : led_on v produced p at ≡ cond (is_joined v p (Some q)) (at ∷ led_on v produced p j) (led_on v produced p j)
    led_here =
        ap (λ o. led_in v produced p (made_with produced o at)) is_q
        ∙ (ap (led_in v produced p) (behind_here produced q.instance at (there_below produced at q is_q) (ap (is_made_at q.instance) is_q ∙ eq-eqb q.instance q.instance refl))
        ∙ (ap (λ o. cond (is_joined v p o) (at ∷ led_in v produced p (made_behind produced q.instance (at + 1))) (led_in v produced p (made_behind produced q.instance (at + 1)))) is_q
        ∙ ap (λ ws. cond (is_joined v p (Some q)) (at ∷ led_in v produced p ws) (led_in v produced p ws)) (behind_next produced q.instance (at + 1) j h)))

    pub led_passed : is_joined v p (Some q) ≡ false → led_on v produced p at ≡ led_on v produced p j
    led_passed e = led_here ∙ ap (λ b. cond b (at ∷ led_on v produced p j) (led_on v produced p j)) e

    pub led_found : is_joined v p (Some q) ≡ true → led_on v produced p at ≡ at ∷ led_on v produced p j
    led_found e = led_here ∙ ap (λ b. cond b (at ∷ led_on v produced p j) (led_on v produced p j)) e

-- no item is told yet
pub none_made : (produced : List (Option PortHeld)) (first next : List ℕ) → length next ≡ length produced → ((m : ℕ) → m < length first → get_or first m 0 ≡ length produced) → AreMadeFrom produced (length produced) first next
none_made produced first next each firsts = record {
  each = each;
  firsts = λ m l.
      let e = firsts m l in
      record {
        behind = omega (arith, e);
        none = λ w h k. absurd (omega (arith, h, k, e));
        made = λ h. absurd (omega (arith, h, e));
      };
  nexts = λ w q h e. let l = there_below produced w q e in absurd (omega (arith, h, l));
}

module _ (produced : List (Option PortHeld)) (k : ℕ) (first next : List ℕ) (h : AreMadeFrom produced (k + 1) first next) where
  -- an instance at which the item is not produced
  passed : (m : ℕ) → is_made_at m (get_or produced k None) ≡ false → m < length first → IsNextMade produced m k (get_or first m 0)
  passed m e l =
      let f = h.firsts m l in
      record {
        behind = let b = f.behind in omega (arith, b);
        none = λ w a b. ⊎_elim (λ (s : w ≡ k). subst (λ n. is_made_at m (get_or produced n None) ≡ false) (sym s) e) (λ s. f.none w (let far : w ≡ k → ⊥ = s in above w a far) b) (cases_eq w k);
        made = f.made;
      }
    where
      above : (w : ℕ) → k ≤ w → (w ≡ k → ⊥) → k + 1 ≤ w
      above w a s = ⊎_elim (λ (l : w < k + 1). absurd (s (omega (arith, a, l)))) (λ (l : k + 1 ≤ w). l) (cases_lt w (k + 1))

  -- an item that is produced nowhere changes nothing
  pub none_before : get_or produced k None ≡ None → AreMadeFrom produced k first next
  none_before e = record {
    each = h.each;
    firsts = λ m l. passed m (ap (is_made_at m) e) l;
    nexts = λ w q a s. h.nexts w q (later w q a s) s;
  }
    where
      later : (w : ℕ) (q : PortHeld) → k ≤ w → get_or produced w None ≡ Some q → k + 1 ≤ w
      later w q a s = ⊎_elim
          (λ (l : w < k + 1). let is : w ≡ k = omega (arith, a, l) in absurd (none-some q (sym e ∙ subst (λ n. get_or produced n None ≡ Some q) is s)))
          (λ (l : k + 1 ≤ w). l)
          (cases_lt w (k + 1))

  module _ (q : PortHeld) (is_q : get_or produced k None ≡ Some q) (there : q.instance < length first) where
    -- any other is the first at its instance
    pub one_before : AreMadeFrom produced k (set first q.instance k) (set next k (get_or first q.instance 0))
    one_before = record {
      each = length-set next k (get_or first q.instance 0) ∙ h.each;
      firsts = λ m l. ⊎_elim (same m) (other m (subst (λ n. m < n) (length-set first q.instance k) l)) (cases_eq m q.instance);
      nexts = λ w o a s. ⊎_elim (first_of w o s) (behind w o a s) (cases_eq w k);
    }
      where
        low : k < length next
        low = let l = there_below produced k q is_q in subst (λ n. k < n) (sym h.each) l

        same : (m : ℕ) → m ≡ q.instance → IsNextMade produced m k (get_or (set first q.instance k) m 0)
        same m e =
            subst (λ n. IsNextMade produced n k (get_or (set first q.instance k) n 0)) (sym e)
            (subst (IsNextMade produced q.instance k) (sym (get_or-set_same first q.instance k 0 there)) (record {
              behind = omega arith;
              none = λ w a b. absurd (omega (arith, a, b));
              made = λ _. ap (is_made_at q.instance) is_q ∙ eq-eqb q.instance q.instance refl;
            }))

        apart : (m : ℕ) → (m ≡ q.instance → ⊥) → is_made_at m (get_or produced k None) ≡ false
        apart m e = ⊎_elim (λ t. absurd (e (sym (eqb-true q.instance m (sym (ap (is_made_at m) is_q) ∙ t))))) (λ f. f) (cases_Bool (is_made_at m (get_or produced k None)))

        other : (m : ℕ) → m < length first → (m ≡ q.instance → ⊥) → IsNextMade produced m k (get_or (set first q.instance k) m 0)
        other m l e = subst (IsNextMade produced m k) (sym (get_or-set_other first q.instance m k 0 e)) (passed m (apart m e) l)

        first_of : (w : ℕ) (o : PortHeld) → get_or produced w None ≡ Some o → w ≡ k → IsNextMade produced o.instance (w + 1) (get_or (set next k (get_or first q.instance 0)) w 0)
        first_of w o s e =
            let is_o : get_or produced k None ≡ Some o = subst (λ n. get_or produced n None ≡ Some o) e s in
            subst (λ n. IsNextMade produced o.instance (n + 1) (get_or (set next k (get_or first q.instance 0)) n 0)) (sym e)
            (subst (IsNextMade produced o.instance (k + 1)) (sym (get_or-set_same next k (get_or first q.instance 0) 0 low))
            (of_output (Some q) (sym is_q ∙ is_o) (h.firsts q.instance there)))
          where
            of_output : (x : Option PortHeld) → x ≡ Some o → MatchOption x (Unit {0}) (λ y. IsNextMade produced y.instance (k + 1) (get_or first q.instance 0)) → IsNextMade produced o.instance (k + 1) (get_or first q.instance 0)
            of_output x e n = subst (λ z. MatchOption z (Unit {0}) (λ y. IsNextMade produced y.instance (k + 1) (get_or first q.instance 0))) e n

        behind : (w : ℕ) (o : PortHeld) → k ≤ w → get_or produced w None ≡ Some o → (w ≡ k → ⊥) → IsNextMade produced o.instance (w + 1) (get_or (set next k (get_or first q.instance 0)) w 0)
        behind w o a s e =
            subst (IsNextMade produced o.instance (w + 1)) (sym (get_or-set_other next k w (get_or first q.instance 0) 0 e)) (h.nexts w o (above w a e) s)
          where
            above : (w : ℕ) → k ≤ w → (w ≡ k → ⊥) → k + 1 ≤ w
            above w a s = ⊎_elim (λ (l : w < k + 1). absurd (s (omega (arith, a, l)))) (λ (l : k + 1 ≤ w). l) (cases_lt w (k + 1))
