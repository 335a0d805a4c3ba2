-- What leads to each port of a body.
use Rattle.std.proofs.Common.{◌≡◌, ℕ, zero, suc, ◌+◌, ◌<◌, ◌⊎◌, IsTrue, List, [], ◌∷◌, ◌++◌, map, Option, Some, None, refl, sym, ap, ◌∙◌, subst, inl, inr, ⊎_elim, arith}
use Rattle.wf_model.specs.Lists.{IsIn, IsAt, Walk, here, onward}
use Rattle.wf_model.specs.Grammar.{Grammar, Assignment, Inner, Edge, production_at, inputs_of, outputs_of, body_of}
use Rattle.wf_model.specs.declared.numbers.Side.{Side}
use Rattle.wf_model.specs.declared.numbers.Side.TheVariants.{Input, Output}
use Rattle.wf_model.specs.Links.{Port, Link, input, output, edge_link, entry_links, exit_links, wiring, pair_links, place_links, body_links, IsLinked, Path}
use Rattle.wf_model.proofs.Lists.{in_append_left, in_append_right, in_append_cases, in_map, in_map_from}
use Rattle.wf_model.proofs.Level.{pair_links_from, pair_links_in, place_links_from, place_links_in}
use Rattle.wf_model.proofs.Walks.{walk-append, walk_one}
use Rattle.wf_body.specs.Body.{ToInput, ToOutput, ToExit, at_port, BodyLaw}
use Rattle.wf_body.proofs.Entering.{same_inner}

-- the last step of a walk
last_step : {A : Type 0} {R : A → A → Type 0} {x y : A} → Walk R x y → (x ≡ y) ⊎ ((z : A) × Walk R x z × R z y)
last_step here = inl refl
last_step {R = R} (onward {x = a} {y = b} {z = c} r w) = ⊎_elim (λ e. inr (a, here, subst (λ q. R a q) e r)) (λ s. inr (s.0, onward r s.1, s.2)) (last_step w)

at_entry : (l : Link (Option ℕ)) (k : ℕ) (is : List Inner) → IsIn l (entry_links k is) → (i : Inner) × (n : ℕ) × IsAt i n is × (l ≡ record { from = input None (k + n); to = input (Some i.position) i.port })
at_entry l k [] q = absurd q
at_entry l k (i ∷ is) (inl e) = (i, 0, refl, e ∙ (let f : k ≡ k + 0 = omega arith in ap (λ z. record { from = input None z; to = input (Some i.position) i.port }) f))
at_entry l k (i ∷ is) (inr q) =
    let r = at_entry l (suc k) is q in
    let f : suc k + r.1 ≡ k + suc r.1 = omega arith in
    (r.0, suc r.1, r.2, r.3 ∙ ap (λ z. record { from = input None z; to = input (Some r.0.position) r.0.port }) f)

entry_in : (k n : ℕ) (i : Inner) (is : List Inner) → IsAt i n is → IsIn {A = Link (Option ℕ)} (record { from = input None (k + n); to = input (Some i.position) i.port }) (entry_links k is)
entry_in k n i [] h = absurd h
entry_in k zero i (j ∷ is) h =
    let f : k + 0 ≡ k = omega arith in
    inl (ap (λ z. record { from = input None z; to = input (Some i.position) i.port }) f ∙ ap (λ (z : Inner). record { from = input None k; to = input (Some z.position) z.port }) h)
entry_in k (suc n) i (j ∷ is) h =
    let f : suc k + n ≡ k + suc n = omega arith in
    inr (subst (λ z. IsIn {A = Link (Option ℕ)} (record { from = input None z; to = input (Some i.position) i.port }) (entry_links (suc k) is)) f (entry_in (suc k) n i is h))

at_exit : (l : Link (Option ℕ)) (k : ℕ) (is : List Inner) → IsIn l (exit_links k is) → (i : Inner) × (n : ℕ) × IsAt i n is × (l ≡ record { from = output (Some i.position) i.port; to = output None (k + n) })
at_exit l k [] q = absurd q
at_exit l k (i ∷ is) (inl e) = (i, 0, refl, e ∙ (let f : k ≡ k + 0 = omega arith in ap (λ z. record { from = output (Some i.position) i.port; to = output None z }) f))
at_exit l k (i ∷ is) (inr q) =
    let r = at_exit l (suc k) is q in
    let f : suc k + r.1 ≡ k + suc r.1 = omega arith in
    (r.0, suc r.1, r.2, r.3 ∙ ap (λ z. record { from = output (Some r.0.position) r.0.port; to = output None z }) f)

exit_in : (k n : ℕ) (i : Inner) (is : List Inner) → IsAt i n is → IsIn {A = Link (Option ℕ)} (record { from = output (Some i.position) i.port; to = output None (k + n) }) (exit_links k is)
exit_in k n i [] h = absurd h
exit_in k zero i (j ∷ is) h =
    let f : k + 0 ≡ k = omega arith in
    inl (ap (λ z. record { from = output (Some i.position) i.port; to = output None z }) f ∙ ap (λ (z : Inner). record { from = output (Some z.position) z.port; to = output None k }) h)
exit_in k (suc n) i (j ∷ is) h =
    let f : suc k + n ≡ k + suc n = omega arith in
    inr (subst (λ z. IsIn {A = Link (Option ℕ)} (record { from = output (Some i.position) i.port; to = output None z }) (exit_links (suc k) is)) f (exit_in (suc k) n i is h))

module _ (g : Grammar) (d : Assignment) (p : ℕ) where
  -- the links of each kind
  edge_linked : (e : Edge) → IsIn e (production_at g p).edges → IsLinked (body_links g d p) (output (Some e.from.position) e.from.port) (input (Some e.to.position) e.to.port)
  edge_linked e h = in_append_left _ (wiring g p) (place_links g d 0 (body_of g p)) (in_append_left _ (map edge_link (production_at g p).edges) _ (in_map edge_link e (production_at g p).edges h))

  entry_linked : (i : Inner) (n : ℕ) → IsAt i n (production_at g p).entries → IsLinked (body_links g d p) (input None n) (input (Some i.position) i.port)
  entry_linked i n h =
      let f : 0 + n ≡ n = omega arith in
      in_append_left _ (wiring g p) (place_links g d 0 (body_of g p)) (in_append_right _ (map edge_link (production_at g p).edges) _ (in_append_left _ (entry_links 0 (production_at g p).entries) _
      (subst (λ z. IsIn {A = Link (Option ℕ)} (record { from = input None z; to = input (Some i.position) i.port }) (entry_links 0 (production_at g p).entries)) f (entry_in 0 n i (production_at g p).entries h))))

  exit_linked : (i : Inner) (n : ℕ) → IsAt i n (production_at g p).exits → IsLinked (body_links g d p) (output (Some i.position) i.port) (output None n)
  exit_linked i n h =
      let f : 0 + n ≡ n = omega arith in
      in_append_left _ (wiring g p) (place_links g d 0 (body_of g p)) (in_append_right _ (map edge_link (production_at g p).edges) _ (in_append_right _ (entry_links 0 (production_at g p).entries) _
      (subst (λ z. IsIn {A = Link (Option ℕ)} (record { from = output (Some i.position) i.port; to = output None z }) (exit_links 0 (production_at g p).exits)) f (exit_in 0 n i (production_at g p).exits h))))

  pair_linked : (m k i o : ℕ) → IsAt m k (body_of g p) → i < inputs_of g m → o < outputs_of g m → IsTrue (d m i o) → IsLinked (body_links g d p) (input (Some k) i) (output (Some k) o)
  pair_linked m k i o h li lo t =
      let f : k ≡ 0 + k = omega arith in
      in_append_right _ (wiring g p) (place_links g d 0 (body_of g p))
      (place_links_in g d _ 0 (body_of g p) k m h (subst (λ z. IsLinked (pair_links g d m (Some z)) (input (Some k) i) (output (Some k) o)) f (pair_links_in g d m (Some k) i o li lo t)))

  same_inner_port : (s : Side) (i : Inner) (k j : ℕ) → ◌≡◌ {A = Port (Option ℕ)} (record { owner = Some i.position; side = s; number = i.port }) (record { owner = Some k; side = s; number = j }) → i ≡ at_port k j
  same_inner_port s i k j e =
      let o : Some i.position ≡ Some k = ap (λ (z : Port (Option ℕ)). z.owner) e in
      let o' : i.position ≡ k = cc in
      same_inner i k j o' (ap (λ (z : Port (Option ℕ)). z.number) e)

  -- what may come before an input of a position
  into_input : (z : Port (Option ℕ)) (k j : ℕ) → IsLinked (body_links g d p) z (input (Some k) j) →
      ((h : ℕ) × IsAt (at_port k j) h (production_at g p).entries × (z ≡ input None h)) ⊎
      ((e : Edge) × IsIn e (production_at g p).edges × (e.to ≡ at_port k j) × (z ≡ output (Some e.from.position) e.from.port))
  into_input z k j h =
      let r = production_at g p in
      let l : Link (Option ℕ) = record { from = z; to = input (Some k) j } in
      ⊎_elim
      (λ w. ⊎_elim
      (λ a. let e = in_map_from edge_link l r.edges a in
      let t : input (Some e.0.to.position) e.0.to.port ≡ input (Some k) j = sym (ap (λ (q : Link (Option ℕ)). q.to) e.2) in
      inr (e.0, e.1, same_inner_port Input e.0.to k j t, ap (λ (q : Link (Option ℕ)). q.from) e.2))
      (λ b. ⊎_elim
      (λ a. let e = at_entry l 0 r.entries a in
      let t : input (Some e.0.position) e.0.port ≡ input (Some k) j = sym (ap (λ (q : Link (Option ℕ)). q.to) e.3) in
      let n : 0 + e.1 ≡ e.1 = omega arith in
      inl (e.1, subst (λ q. IsAt q e.1 r.entries) (same_inner_port Input e.0 k j t) e.2, ap (λ (q : Link (Option ℕ)). q.from) e.3 ∙ ap (input None) n))
      (λ a. let e = at_exit l 0 r.exits a in let f : Input ≡ Output = ap (λ (q : Link (Option ℕ)). q.to.side) e.3 in absurd (cc))
      (in_append_cases l (entry_links 0 r.entries) (exit_links 0 r.exits) b))
      (in_append_cases l (map edge_link r.edges) (entry_links 0 r.entries ++ exit_links 0 r.exits) w))
      (λ a. let q = place_links_from g d l 0 (body_of g p) a in
      let w = pair_links_from g d q.1 (Some (0 + q.0)) l q.3 in
      let f : Input ≡ Output = ap (λ (c : Link (Option ℕ)). c.to.side) w.5 in absurd (cc))
      (in_append_cases l (wiring g p) (place_links g d 0 (body_of g p)) h)

  -- what may come before an output of a position
  into_output : (z : Port (Option ℕ)) (k o : ℕ) → IsLinked (body_links g d p) z (output (Some k) o) →
      (m : ℕ) × (i : ℕ) × IsAt m k (body_of g p) × (i < inputs_of g m) × (o < outputs_of g m) × IsTrue (d m i o) × (z ≡ input (Some k) i)
  into_output z k o h =
      let r = production_at g p in
      let l : Link (Option ℕ) = record { from = z; to = output (Some k) o } in
      ⊎_elim
      (λ w. ⊎_elim
      (λ a. let e = in_map_from edge_link l r.edges a in let f : Output ≡ Input = ap (λ (q : Link (Option ℕ)). q.to.side) e.2 in absurd (cc))
      (λ b. ⊎_elim
      (λ a. let e = at_entry l 0 r.entries a in let f : Output ≡ Input = ap (λ (q : Link (Option ℕ)). q.to.side) e.3 in absurd (cc))
      (λ a. let e = at_exit l 0 r.exits a in let f : Some k ≡ None = ap (λ (q : Link (Option ℕ)). q.to.owner) e.3 in absurd (cc))
      (in_append_cases l (entry_links 0 r.entries) (exit_links 0 r.exits) b))
      (in_append_cases l (map edge_link r.edges) (entry_links 0 r.entries ++ exit_links 0 r.exits) w))
      (λ a. let q = place_links_from g d l 0 (body_of g p) a in
      let w = pair_links_from g d q.1 (Some (0 + q.0)) l q.3 in
      let f : Some k ≡ Some (0 + q.0) = ap (λ (c : Link (Option ℕ)). c.to.owner) w.5 in
      let f' : k ≡ 0 + q.0 = cc in
      let f'' : q.0 ≡ k = omega arith in
      let n : w.1 ≡ o = sym (ap (λ (c : Link (Option ℕ)). c.to.number) w.5) in
      (q.1, w.0, subst (λ c. IsAt q.1 c (body_of g p)) f'' q.2, w.2, subst (λ c. c < outputs_of g q.1) n w.3, subst (λ c. IsTrue (d q.1 w.0 c)) n w.4, ap (λ (c : Link (Option ℕ)). c.from) w.5 ∙ ap (λ c. input (Some c) w.0) (sym f')))
      (in_append_cases l (wiring g p) (place_links g d 0 (body_of g p)) h)

  -- what may come before an output of the head
  into_exit : (z : Port (Option ℕ)) (o : ℕ) → IsLinked (body_links g d p) z (output None o) → (i : Inner) × IsAt i o (production_at g p).exits × (z ≡ output (Some i.position) i.port)
  into_exit z o h =
      let r = production_at g p in
      let l : Link (Option ℕ) = record { from = z; to = output None o } in
      ⊎_elim
      (λ w. ⊎_elim
      (λ a. let e = in_map_from edge_link l r.edges a in let f : Output ≡ Input = ap (λ (q : Link (Option ℕ)). q.to.side) e.2 in absurd (cc))
      (λ b. ⊎_elim
      (λ a. let e = at_entry l 0 r.entries a in let f : Output ≡ Input = ap (λ (q : Link (Option ℕ)). q.to.side) e.3 in absurd (cc))
      (λ a. let e = at_exit l 0 r.exits a in
      let n : 0 + e.1 ≡ e.1 = omega arith in
      let f : o ≡ e.1 = ap (λ (q : Link (Option ℕ)). q.to.number) e.3 ∙ n in
      (e.0, subst (λ q. IsAt e.0 q r.exits) (sym f) e.2, ap (λ (q : Link (Option ℕ)). q.from) e.3))
      (in_append_cases l (entry_links 0 r.entries) (exit_links 0 r.exits) b))
      (in_append_cases l (map edge_link r.edges) (entry_links 0 r.entries ++ exit_links 0 r.exits) w))
      (λ a. let q = place_links_from g d l 0 (body_of g p) a in
      let w = pair_links_from g d q.1 (Some (0 + q.0)) l q.3 in
      let f : None ≡ Some (0 + q.0) = ap (λ (c : Link (Option ℕ)). c.to.owner) w.5 in absurd (cc))
      (in_append_cases l (wiring g p) (place_links g d 0 (body_of g p)) h)

  -- nothing comes before an input of the head
  into_head : (z : Port (Option ℕ)) (h : ℕ) → IsLinked (body_links g d p) z (input None h) → ⊥
  into_head z h q =
      let r = production_at g p in
      let l : Link (Option ℕ) = record { from = z; to = input None h } in
      ⊎_elim
      (λ w. ⊎_elim
      (λ a. let e = in_map_from edge_link l r.edges a in let f : None ≡ Some e.0.to.position = ap (λ (q : Link (Option ℕ)). q.to.owner) e.2 in absurd (cc))
      (λ b. ⊎_elim
      (λ a. let e = at_entry l 0 r.entries a in let f : None ≡ Some e.0.position = ap (λ (q : Link (Option ℕ)). q.to.owner) e.3 in absurd (cc))
      (λ a. let e = at_exit l 0 r.exits a in let f : Input ≡ Output = ap (λ (q : Link (Option ℕ)). q.to.side) e.3 in absurd (cc))
      (in_append_cases l (entry_links 0 r.entries) (exit_links 0 r.exits) b))
      (in_append_cases l (map edge_link r.edges) (entry_links 0 r.entries ++ exit_links 0 r.exits) w))
      (λ a. let q = place_links_from g d l 0 (body_of g p) a in
      let w = pair_links_from g d q.1 (Some (0 + q.0)) l q.3 in
      let f : Input ≡ Output = ap (λ (c : Link (Option ℕ)). c.to.side) w.5 in absurd (cc))
      (in_append_cases l (wiring g p) (place_links g d 0 (body_of g p)) q)

  from_head : (x : Port (Option ℕ)) (h : ℕ) → Path (body_links g d p) x (input None h) → x ≡ input None h
  from_head x h w = ⊎_elim (λ e. e) (λ s. absurd (into_head s.0 h s.2)) (last_step w)

  -- a walk to an input begins there, or has a last link
  input_to : (x : Port (Option ℕ)) (k j : ℕ) → ToInput g d p x k j →
      (x ≡ input (Some k) j) ⊎ (((h : ℕ) × IsAt (at_port k j) h (production_at g p).entries × (x ≡ input None h)) ⊎ ((e : Edge) × IsIn e (production_at g p).edges × (e.to ≡ at_port k j) × ToOutput g d p x e.from.position e.from.port))
  input_to x k j w =
      ⊎_elim (λ e. inl e)
      (λ s. inr (⊎_elim
      (λ a. inl (a.0, a.1, from_head x a.0 (subst (λ q. Path (body_links g d p) x q) a.2 s.1)))
      (λ a. inr (a.0, a.1, a.2, subst (λ q. Path (body_links g d p) x q) a.3 s.1))
      (into_input s.0 k j s.2)))
      (last_step w)

  output_to : (x : Port (Option ℕ)) (k o : ℕ) → ToOutput g d p x k o →
      (x ≡ output (Some k) o) ⊎ ((m : ℕ) × (i : ℕ) × IsAt m k (body_of g p) × (i < inputs_of g m) × (o < outputs_of g m) × IsTrue (d m i o) × ToInput g d p x k i)
  output_to x k o w =
      ⊎_elim (λ e. inl e)
      (λ s. let a = into_output s.0 k o s.2 in inr (a.0, a.1, a.2, a.3, a.4, a.5, subst (λ q. Path (body_links g d p) x q) a.6 s.1))
      (last_step w)

  exit_to : (x : Port (Option ℕ)) (o : ℕ) → ToExit g d p x o → (x ≡ output None o) ⊎ ((i : Inner) × IsAt i o (production_at g p).exits × ToOutput g d p x i.position i.port)
  exit_to x o w =
      ⊎_elim (λ e. inl e) (λ s. let a = into_exit s.0 o s.2 in inr (a.0, a.1, subst (λ q. Path (body_links g d p) x q) a.2 s.1)) (last_step w)

  to_input : (x : Port (Option ℕ)) (k j : ℕ) →
      ((x ≡ input (Some k) j) ⊎ (((h : ℕ) × IsAt (at_port k j) h (production_at g p).entries × (x ≡ input None h)) ⊎ ((e : Edge) × IsIn e (production_at g p).edges × (e.to ≡ at_port k j) × ToOutput g d p x e.from.position e.from.port))) →
      ToInput g d p x k j
  to_input x k j c =
      ⊎_elim (λ e. subst (λ q. Path (body_links g d p) x q) e here)
      (λ b. ⊎_elim
      (λ a. subst (λ q. Path (body_links g d p) q (input (Some k) j)) (sym a.2) (walk_one (entry_linked (at_port k j) a.0 a.1)))
      (λ a. walk-append a.3 (walk_one (subst (λ (q : Inner). IsLinked (body_links g d p) (output (Some a.0.from.position) a.0.from.port) (input (Some q.position) q.port)) a.2 (edge_linked a.0 a.1)))) b) c

  to_output : (x : Port (Option ℕ)) (k o : ℕ) →
      ((x ≡ output (Some k) o) ⊎ ((m : ℕ) × (i : ℕ) × IsAt m k (body_of g p) × (i < inputs_of g m) × (o < outputs_of g m) × IsTrue (d m i o) × ToInput g d p x k i)) →
      ToOutput g d p x k o
  to_output x k o c =
      ⊎_elim (λ e. subst (λ q. Path (body_links g d p) x q) e here) (λ a. walk-append a.6 (walk_one (pair_linked a.0 k a.1 o a.2 a.3 a.4 a.5))) c

  to_exit : (x : Port (Option ℕ)) (o : ℕ) → ((x ≡ output None o) ⊎ ((i : Inner) × IsAt i o (production_at g p).exits × ToOutput g d p x i.position i.port)) → ToExit g d p x o
  to_exit x o c = ⊎_elim (λ e. subst (λ q. Path (body_links g d p) x q) e here) (λ a. walk-append a.2 (walk_one (exit_linked a.0 o a.1))) c

pub led_to : BodyLaw
led_to g d p x =
    record {
      inputs = λ k j. (input_to g d p x k j, to_input g d p x k j);
      outputs = λ k o. (output_to g d p x k o, to_output g d p x k o);
      exits = λ o. (exit_to g d p x o, to_exit g d p x o);
    }
