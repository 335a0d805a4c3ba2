-- A path in the lifted links is a path whose word leads from state to state.
use Rattle.std.proofs.Common.{◌≡◌, ◌⊎◌, ℕ, ◌+◌, ◌*◌, ◌<◌, List, [], ◌∷◌, refl, sym, ap, ◌∙◌, subst, inl, inr, ⊎_elim, arith}
use Rattle.std.proofs.Math.Arith.{digits_lt}
use Rattle.std.proofs.lemmas.Nat.{same_from_place, div_below, div-mul-add}
use Rattle.wf_model.specs.Lists.{IsIn, Walk, here, onward}
use Rattle.wf_model.specs.Grammar.{Grammar, inputs_of, outputs_of}
use Rattle.wf_model.specs.View.{View}
use Rattle.wf_model.specs.declared.event.Event.{Event}
use Rattle.wf_model.specs.Run.{Instance}
use Rattle.wf_model.specs.Links.{Port, Link, input, output, instance_at, move_link, pair_links, links, perceived, IsLinked, Path}
use Rattle.wf_model.proofs.Level.{pair_links_from, pair_links_in}
use Rattle.words_model.specs.Automata.{Automaton, IsAutomaton, next_state, state_after}
use Rattle.words_model.specs.Words.{IsWire, IsPairOf, WordPath, stay, by_wire, by_pair}
use Rattle.words_model.specs.Lifting.{in_state, lift_port, lift, lift_view}
use Rattle.words_model.specs.Laws.{LiftedPathLaw}
use Rattle.words_model.proofs.LiftedParts.{lifted_inputs, lifted_outputs}
use Rattle.words_model.proofs.LiftedWires.{lift_link, wiring_from_lifted, wiring_in_lifted}
use Rattle.words_model.proofs.LiftedPairs.{next_below, shows_from, shows_in, perceived_shown, shown_perceived}
use Rattle.words_model.proofs.LiftedRuns.{seen_lifted}
use Rattle.words_model.proofs.WordPaths.{wire_or_pair, wire_linked, pair_linked}

-- a port and its state are one by the lifted port
same_lifted : (k : ℕ) (x y : Port (List ℕ)) (s t : ℕ) → s < k → t < k → lift_port k s x ≡ lift_port k t y → (x ≡ y) × (s ≡ t)
same_lifted k x y s t hs ht e =
    let n = same_from_place x.number s y.number t k hs ht (ap (λ (z : Port (List ℕ)). z.number) e) in
    let eo : x.owner ≡ y.owner = ap (λ (z : Port (List ℕ)). z.owner) e in
    let es : x.side ≡ y.side = ap (λ (z : Port (List ℕ)). z.side) e in
    let en : x.number ≡ y.number = n.0 in
    ((λ i. record { owner = eo i; side = es i; number = en i }), n.1)

-- a port that is there in some state is there
below_place : (k i n s : ℕ) → s < k → in_state k s i < n * k → i < n
below_place k i n s hs h =
    let z : 0 < k = omega arith in
    subst (λ w. w < n) (div-mul-add i k s hs) (div_below (i * k + s) k n z h)

module _ (g : Grammar) (u : View) (a : Automaton) (ia : IsAutomaton a) (m : ℕ) (events : List Event) where
  abbrev lifted_links : List (Link (List ℕ))
  lifted_links = links (lift g a.states) (lift_view a u) m events

  -- a lifted link is a link from a state: a wire keeps the state, and a pair leads to the next one
  record IsFromState (p q : Port (List ℕ)) : Type 0 where
    x : Port (List ℕ)
    y : Port (List ℕ)
    s : ℕ
    state : s < a.states
    from : p ≡ lift_port a.states s x
    step : (IsWire g u m events x y × (q ≡ lift_port a.states s y)) ⊎
        ((n : Instance) × IsPairOf g u m events n x y × (q ≡ lift_port a.states (next_state a s n.module_no) y))

  wire_from : (p q : Port (List ℕ)) → IsWire (lift g a.states) (lift_view a u) m events p q → IsFromState p q
  wire_from p q w =
      let f = wiring_from_lifted g a.states w.by.production w.inner w.in_body in
      let moved = move_link (instance_at w.owner.name w.by.names) f.0 in
      let same : ◌≡◌ {A = Link (List ℕ)} (record { from = p; to = q }) (lift_link a.states f.1 (move_link (instance_at w.owner.name w.by.names) f.0)) = w.is ∙ ap (move_link (instance_at w.owner.name w.by.names)) f.4 in
      record {
        x = moved.from;
        y = moved.to;
        s = f.1;
        state = f.2;
        from = ap (λ (l : Link (List ℕ)). l.from) same;
        step = inl (
          record { owner = w.owner; is_open = (subst (IsIn w.owner) (seen_lifted g u a m events) w.is_open.0, w.is_open.1, w.is_open.2); by = w.by; told = w.told; inner = f.0; in_body = f.3; is = refl },
          ap (λ (l : Link (List ℕ)). l.to) same,
        );
      }

  pair_from : (p q : Port (List ℕ)) (n : Instance) → IsPairOf (lift g a.states) (lift_view a u) m events n p q → IsFromState p q
  pair_from p q n h =
      let w = pair_links_from (lift g a.states) (perceived (lift_view a u)) n.module_no n.name (record { from = p; to = q }) h.1 in
      let sh = perceived_shown (lift_view a u) n.module_no w.0 w.1 w.4 in
      let f = shows_from a u n.module_no w.0 w.1 sh.1 in
      let hi : f.i0 < inputs_of g n.module_no = below_place a.states f.i0 (inputs_of g n.module_no) f.s f.state (subst (λ z. z < inputs_of g n.module_no * a.states) f.input_is (subst (λ z. w.0 < z) (lifted_inputs g a.states n.module_no) w.2)) in
      let ho : f.o0 < outputs_of g n.module_no = below_place a.states f.o0 (outputs_of g n.module_no) (next_state a f.s n.module_no) (next_below a ia f.s n.module_no f.state) (subst (λ z. z < outputs_of g n.module_no * a.states) f.output_is (subst (λ z. w.1 < z) (lifted_outputs g a.states n.module_no) w.3)) in
      record {
        x = input n.name f.i0;
        y = output n.name f.o0;
        s = f.s;
        state = f.state;
        from = ap (λ (l : Link (List ℕ)). l.from) w.5 ∙ ap (input n.name) f.input_is;
        step = inr (
          n,
          (subst (IsIn n) (seen_lifted g u a m events) h.0, pair_links_in g (perceived u) n.module_no n.name f.i0 f.o0 hi ho (shown_perceived u n.module_no f.i0 f.o0 sh.0 f.shown)),
          ap (λ (l : Link (List ℕ)). l.to) w.5 ∙ ap (output n.name) f.output_is,
        );
      }

  from_state : (p q : Port (List ℕ)) → IsLinked lifted_links p q → IsFromState p q
  from_state p q h = ⊎_elim (wire_from p q) (λ w. pair_from p q w.0 w.1) (wire_or_pair (lift g a.states) (lift_view a u) m events p q h)

  there : {p q : Port (List ℕ)} → Walk (IsLinked lifted_links) p q → (x y : Port (List ℕ)) (s t : ℕ) → s < a.states → t < a.states → p ≡ lift_port a.states s x → q ≡ lift_port a.states t y →
      (word : List ℕ) × WordPath g u m events x y word × (state_after a s word ≡ t)
  there here x y s t hs ht ep eq =
      let q = same_lifted a.states x y s t hs ht (sym ep ∙ eq) in
      ([], subst (λ z. WordPath g u m events x z []) q.0 stay, q.1)
  there (onward {x = p} {y = r} l w) x y s t hs ht ep eq =
      let st = from_state p r l in
      let q = same_lifted a.states x st.x s st.s hs st.state (sym ep ∙ st.from) in
      ⊎_elim
      (λ c.
      let v = there w st.y y st.s t st.state ht c.1 eq in
      (v.0, by_wire (subst (λ z. IsWire g u m events z st.y) (sym q.0) c.0) v.1, ap (λ z. state_after a z v.0) q.1 ∙ v.2))
      (λ c.
      let n = c.0 in
      let v = there w st.y y (next_state a st.s n.module_no) t (next_below a ia st.s n.module_no st.state) ht c.2 eq in
      (n.module_no ∷ v.0, by_pair n (subst (λ z. IsPairOf g u m events n z st.y) (sym q.0) c.1) v.1, ap (λ z. state_after a (next_state a z n.module_no) v.0) q.1 ∙ v.2))
      st.step

  lifted_wire : (x y : Port (List ℕ)) (s : ℕ) → s < a.states → IsWire g u m events x y → IsWire (lift g a.states) (lift_view a u) m events (lift_port a.states s x) (lift_port a.states s y)
  lifted_wire x y s hs w = record {
    owner = w.owner;
    is_open = (subst (IsIn w.owner) (sym (seen_lifted g u a m events)) w.is_open.0, w.is_open.1, w.is_open.2);
    by = w.by;
    told = w.told;
    inner = lift_link a.states s w.inner;
    in_body = wiring_in_lifted g a.states w.by.production w.inner s hs w.in_body;
    is = ap (lift_link a.states s) w.is;
  }

  lifted_pair : (n : Instance) (x y : Port (List ℕ)) (s : ℕ) → s < a.states → IsPairOf g u m events n x y → IsPairOf (lift g a.states) (lift_view a u) m events n (lift_port a.states s x) (lift_port a.states (next_state a s n.module_no) y)
  lifted_pair n x y s hs h =
      let w = pair_links_from g (perceived u) n.module_no n.name (record { from = x; to = y }) h.1 in
      let sh = perceived_shown u n.module_no w.0 w.1 w.4 in
      let lifted = pair_links_in (lift g a.states) (perceived (lift_view a u)) n.module_no n.name (in_state a.states s w.0) (in_state a.states (next_state a s n.module_no) w.1)
      (subst (λ z. in_state a.states s w.0 < z) (sym (lifted_inputs g a.states n.module_no)) (digits_lt w.2 hs))
      (subst (λ z. in_state a.states (next_state a s n.module_no) w.1 < z) (sym (lifted_outputs g a.states n.module_no)) (digits_lt w.3 (next_below a ia s n.module_no hs)))
      (shown_perceived (lift_view a u) n.module_no (in_state a.states s w.0) (in_state a.states (next_state a s n.module_no) w.1) sh.0 (shows_in a u n.module_no w.0 w.1 s hs sh.1)) in (
        subst (IsIn n) (sym (seen_lifted g u a m events)) h.0,
        subst (λ z. IsIn z (pair_links (lift g a.states) (perceived (lift_view a u)) n.module_no n.name)) (sym (ap (λ (l : Link (List ℕ)). record { from = lift_port a.states s l.from; to = lift_port a.states (next_state a s n.module_no) l.to }) w.5)) lifted,
      )

  pub back : {x y : Port (List ℕ)} {word : List ℕ} → WordPath g u m events x y word → (s : ℕ) → s < a.states → Walk (IsLinked lifted_links) (lift_port a.states s x) (lift_port a.states (state_after a s word) y)
  back stay s hs = here
  back (by_wire {x = x} {y = y} l w) s hs = onward (wire_linked (lift g a.states) (lift_view a u) m events (lift_port a.states s x) (lift_port a.states s y) (lifted_wire x y s hs l)) (back w s hs)
  back (by_pair {x = x} {y = y} n l w) s hs =
      onward (pair_linked (lift g a.states) (lift_view a u) m events n (lift_port a.states s x) (lift_port a.states (next_state a s n.module_no) y) (lifted_pair n x y s hs l))
      (back w (next_state a s n.module_no) (next_below a ia s n.module_no hs))

pub lifted_path_law : LiftedPathLaw
lifted_path_law g u a ia m events x y s t hs ht = (
  (λ w. there g u a ia m events w x y s t hs ht refl refl),
  (λ q. subst (λ z. Path (links (lift g a.states) (lift_view a u) m events) (lift_port a.states s x) (lift_port a.states z y)) q.2 (back g u a ia m events q.1 s hs)),
)
