-- From each port at most one edge, entry or exit leads.
use Rattle.std.proofs.Common.{◌≡◌, ℕ, zero, suc, ◌+◌, ◌<◌, ◌≤◌, ◌^◌, ◌⊎◌, Bool, true, List, [], ◌∷◌, ◌++◌, map, length, get_or, count_by, Option, Some, None, refl, sym, ap, subst, ◌∙◌, arith, inl, inr, ⊎_elim}
use Rattle.std.proofs.Math.Nat.{mod-eq_of_lt}
use Rattle.wf_model.specs.declared.numbers.ProdNo.{ProdNo}
use Rattle.wf_model.specs.declared.numbers.Side.TheVariants.{Input, Output}
use Rattle.wf_model.specs.Lists.{IsIn, IsAt}
use Rattle.wf_model.specs.Grammar.{Grammar, Production, Edge, Inner, body_of, production_at, inputs_of, outputs_of}
use Rattle.wf_model.specs.WellFormed.{IsWellFormed, IsWellFormedBody, IsInnerOutput, same_inner}
use Rattle.wf_model.proofs.Lists.{in_append_cases, in_map_from, in_flat_map_from, is_at, at_is, at_below, in_at, at_in}
use Rattle.wf_model.proofs.ItemNames.{same_itself}
use Rattle.wf_flat.specs.declared.table.Inst.{Inst}
use Rattle.wf_flat.specs.declared.graph.Port.{Port}
use Rattle.wf_flat.specs.declared.graph.Link.{Link}
use Rattle.wf_flat.specs.Table.{Table, IsTableOf, no_instance}
use Rattle.wf_flat.specs.Graph.{child_port, own_port, edge_at, entries_at, exits_at, wiring_at, pairs_by, links_at, links_among}
use Rattle.wf_flat.specs.Leading.{LeaveOnce}
use Rattle.wf_flat.proofs.Once.{once}
use Rattle.wf_flat.proofs.OfInstance.{production_there}
use Rattle.wf_flat.proofs.Children.{one_parent}
use Rattle.wf_flat.proofs.InstanceLinks.{by_links}
use Rattle.wf_flat.proofs.Within.{pair_in}

-- what stands at one place is one thing
at_same : {A : Type 0} (x y : A) (n : ℕ) (xs : List A) → IsAt x n xs → IsAt y n xs → x ≡ y
at_same x y n xs i j = sym (at_is x n xs x i) ∙ at_is y n xs x j

-- the places of the outputs that edges leave, and of those that exits leave behind them
edge_place : (es : List Edge) (is : List Inner) (e : Edge) (n : ℕ) → IsAt e n es → IsAt e.from n (map (λ (z : Edge). z.from) es ++ is)
edge_place [] is e n h = absurd h
edge_place (d ∷ es) is e zero h = ap (λ (z : Edge). z.from) h
edge_place (d ∷ es) is e (suc n) h = edge_place es is e n h

exit_place : (es : List Edge) (is : List Inner) (i : Inner) (n m : ℕ) → m ≡ length es + n → IsAt i n is → IsAt i m (map (λ (z : Edge). z.from) es ++ is)
exit_place [] is i n m e h = let s : m ≡ n = omega arith in subst (λ z. IsAt i z is) (sym s) h
exit_place (d ∷ es) is i n zero e h = absurd (omega arith)
exit_place (d ∷ es) is i n (suc m) e h = let s : m ≡ length es + n = omega arith in exit_place es is i n m s h

-- links of entries and of exits, by their places
module _ (k first : ℕ) where
  entry_from : (n : ℕ) (is : List Inner) (l : Link) → IsIn l (entries_at k first n is) → (j : ℕ) × (i : Inner) × IsAt i j is × (l ≡ record { from = own_port k Input (n + j); to = child_port first Input i })
  entry_from n [] l h = absurd h
  entry_from n (i ∷ is) l (inl e) = let z : n + 0 ≡ n = omega arith in (0, i, refl, e ∙ ap (λ (m : ℕ). (let x : Link = record { from = own_port k Input m; to = child_port first Input i } in x)) (sym z))
  entry_from n (i ∷ is) l (inr h) =
      let r = entry_from (n + 1) is l h in
      let z : (n + 1) + r.0 ≡ n + suc r.0 = omega arith in
      (suc r.0, r.1, r.2, r.3 ∙ ap (λ (m : ℕ). (let x : Link = record { from = own_port k Input m; to = child_port first Input r.1 } in x)) z)

  exit_from : (n : ℕ) (is : List Inner) (l : Link) → IsIn l (exits_at k first n is) → (j : ℕ) × (i : Inner) × IsAt i j is × (l ≡ record { from = child_port first Output i; to = own_port k Output (n + j) })
  exit_from n [] l h = absurd h
  exit_from n (i ∷ is) l (inl e) = let z : n + 0 ≡ n = omega arith in (0, i, refl, e ∙ ap (λ (m : ℕ). (let x : Link = record { from = child_port first Output i; to = own_port k Output m } in x)) (sym z))
  exit_from n (i ∷ is) l (inr h) =
      let r = exit_from (n + 1) is l h in
      let z : (n + 1) + r.0 ≡ n + suc r.0 = omega arith in
      (suc r.0, r.1, r.2, r.3 ∙ ap (λ (m : ℕ). (let x : Link = record { from = child_port first Output r.1; to = own_port k Output m } in x)) z)

-- the links of one production
module _ (g : Grammar) (p : ℕ) (body : IsWellFormedBody g p) (k first : ℕ) (small : first + length (body_of g p) < 2 ^ 32) where
  abbrev r : Production
  r = production_at g p

  -- the outputs of positions that edges and exits leave
  abbrev outs : List Inner
  outs = map (λ (e : Edge). e.from) r.edges ++ r.exits

  -- a link leaves an output of a position, which stands at a place among them, and that place says to where it leads
  pub record IsOut (l : Link) : Type 0 where
    pub inner : Inner
    pub place : ℕ
    pub at : IsAt inner place outs
    pub there : IsInnerOutput g p inner
    pub from : l.from ≡ child_port first Output inner
    pub to : ((e : Edge) × IsAt e place r.edges × (l.to ≡ child_port first Input e.to)) ⊎ ((n : ℕ) × (place ≡ length r.edges + n) × (l.to ≡ own_port k Output n))

  -- or an input of the instance itself
  pub record IsEntry (l : Link) : Type 0 where
    pub inner : Inner
    pub place : ℕ
    pub at : IsAt inner place r.entries
    pub from : l.from ≡ own_port k Input place
    pub to : l.to ≡ child_port first Input inner

  pub cases : (l : Link) → IsIn l (wiring_at k first r) → IsOut l ⊎ IsEntry l
  cases l h = ⊎_elim
      (λ a.
      let m = in_map_from (edge_at first) l r.edges a in
      let e = m.0 in
      let a = in_at e r.edges m.1 in
      inl (record {
        inner = e.from;
        place = a.0;
        at = edge_place r.edges r.exits e a.0 a.1;
        there = body.edges_from e m.1;
        from = ap (λ (z : Link). z.from) m.2;
        to = inl (e, a.1, ap (λ (z : Link). z.to) m.2);
      }))
      (λ a. ⊎_elim
      (λ b. let m = entry_from k first 0 r.entries l b in let z : 0 + m.0 ≡ m.0 = omega arith in inr (record { inner = m.1; place = m.0; at = m.2; from = ap (λ (z : Link). z.from) m.3 ∙ ap (own_port k Input) z; to = ap (λ (z : Link). z.to) m.3 }))
      (λ b.
      let m = exit_from k first 0 r.exits l b in
      let z : 0 + m.0 ≡ m.0 = omega arith in
      inl (record {
        inner = m.1;
        place = length r.edges + m.0;
        at = exit_place r.edges r.exits m.1 m.0 (length r.edges + m.0) refl m.2;
        there = body.exits_from m.1 (at_in m.1 m.0 r.exits m.2);
        from = ap (λ (z : Link). z.from) m.3;
        to = inr (m.0, refl, ap (λ (z : Link). z.to) m.3 ∙ ap (own_port k Output) z);
      }))
      (in_append_cases l (entries_at k first 0 r.entries) (exits_at k first 0 r.exits) a))
      (in_append_cases l (map (edge_at first) r.edges) (entries_at k first 0 r.entries ++ exits_at k first 0 r.exits) h)

  -- the instance that an output is of
  pub out_instance : (l : Link) (o : IsOut l) → (l.from.instance ≡ first + o.inner.position) × (o.inner.position < length (body_of g p)) × (l.from.side ≡ Output)
  out_instance l o =
      let low = at_below o.there.0 o.inner.position (body_of g p) o.there.1 in
      let few : first + o.inner.position < 2 ^ 32 = omega arith in
      (ap (λ (x : Port). x.instance) o.from ∙ mod-eq_of_lt few, low, ap (λ (x : Port). x.side) o.from)

  outs_once : (l m : Link) → IsOut l → IsOut m → m.from ≡ l.from → m.to ≡ l.to
  outs_once l m a b e =
      let x = out_instance l a in
      let y = out_instance m b in
      let i : m.from.instance ≡ l.from.instance = ap (λ (z : Port). z.instance) e in
      let position : b.inner.position ≡ a.inner.position = omega arith in
      let port : b.inner.port ≡ a.inner.port = ap (λ (z : Port). z.port.0) (sym b.from ∙ (e ∙ a.from)) in
      let inner : b.inner ≡ a.inner = λ z. record { position = position z; port = port z } in
      let c = body.used_once a.inner a.there in
      let few : count_by (same_inner a.inner) outs ≤ 1 = omega arith in
      let place : b.place ≡ a.place = once (same_inner a.inner) outs few b.place a.place b.inner a.inner b.at a.at (subst (λ z. same_inner a.inner z ≡ true) (sym inner) (same_itself a.inner)) (same_itself a.inner) in
      by place a.to b.to
    where
      by : b.place ≡ a.place → ((f : Edge) × IsAt f a.place r.edges × (l.to ≡ child_port first Input f.to)) ⊎ ((n : ℕ) × (a.place ≡ length r.edges + n) × (l.to ≡ own_port k Output n)) →
          ((f : Edge) × IsAt f b.place r.edges × (m.to ≡ child_port first Input f.to)) ⊎ ((n : ℕ) × (b.place ≡ length r.edges + n) × (m.to ≡ own_port k Output n)) → m.to ≡ l.to
      by s (inl f) (inl h) = h.2 ∙ (ap (λ (z : Edge). child_port first Input z.to) (at_same h.0 f.0 a.place r.edges (subst (λ z. IsAt h.0 z r.edges) s h.1) f.1) ∙ sym f.2)
      by s (inl f) (inr h) = let low = at_below f.0 a.place r.edges f.1 in let d = h.1 in absurd (omega arith)
      by s (inr f) (inl h) = let low = at_below h.0 b.place r.edges h.1 in let d = f.1 in absurd (omega arith)
      by s (inr f) (inr h) = let d = f.1 in let u = h.1 in let n : h.0 ≡ f.0 = omega arith in h.2 ∙ (ap (own_port k Output) n ∙ sym f.2)

  entries_once : (l m : Link) → IsEntry l → IsEntry m → m.from ≡ l.from → m.to ≡ l.to
  entries_once l m a b e =
      let n : b.place ≡ a.place = ap (λ (z : Port). z.port.0) (sym b.from ∙ (e ∙ a.from)) in
      b.to ∙ (ap (child_port first Input) (at_same b.inner a.inner a.place r.entries (subst (λ z. IsAt b.inner z r.entries) n b.at) a.at) ∙ sym a.to)

  apart : (l m : Link) → IsOut l → IsEntry m → m.from ≡ l.from → ⊥
  apart l m a b e = let s : Input ≡ Output = ap (λ (z : Port). z.side) (sym b.from ∙ (e ∙ a.from)) in absurd (cc)

  -- links that leave one port lead to one port
  pub wiring_once : (l m : Link) → IsIn l (wiring_at k first r) → IsIn m (wiring_at k first r) → m.from ≡ l.from → m.to ≡ l.to
  wiring_once l m h j e = by (cases l h) (cases m j)
    where
      by : IsOut l ⊎ IsEntry l → IsOut m ⊎ IsEntry m → m.to ≡ l.to
      by (inl a) (inl b) = outs_once l m a b e
      by (inl a) (inr b) = absurd (apart l m a b e)
      by (inr a) (inl b) = absurd (apart m l b a (sym e))
      by (inr a) (inr b) = entries_once l m a b e

-- the links of the instances of a table
module _ (g : Grammar) (t : Table) (run : IsTableOf g t) (wf : IsWellFormed g) (small : length t.instances < 2 ^ 32) (marks : List Bool) (leaf : List (Option (List ℕ))) where
  -- a link of an instance leaves an input of it, or an output of a child
  abbrev IsOwned : ℕ → Link → Type 0
  IsOwned k l =
      ((l.from.side ≡ Input) × (l.from.instance ≡ k)) ⊎
      ((l.from.side ≡ Output) × (q : ProdNo) × ((get_or t.instances k no_instance).production ≡ Some q) × (a : ℕ) × (a < length (body_of g q.0)) × (l.from.instance ≡ (get_or t.instances k no_instance).first_child + a))

  module _ (k : ℕ) (there : k < length t.instances) where
    abbrev x : Inst
    x = get_or t.instances k no_instance

    pub pairs_owned : (m : ℕ) (o : Option (List ℕ)) (l : Link) → IsIn l (pairs_by g m k o) → IsOwned k l
    pairs_owned m None l h = absurd h
    pairs_owned m (Some rows) l h = let q = pair_in k rows (outputs_of g m) (inputs_of g m) l h in inl (ap (λ (z : Link). z.from.side) q.5, ap (λ (z : Link). z.from.instance) q.5)

    room : (p : ProdNo) → x.production ≡ Some p → x.first_child + length (body_of g p.0) < 2 ^ 32
    room p e = let c = run.children k x p (is_at k t.instances no_instance there) e in omega arith

    body_at : (p : ProdNo) → x.production ≡ Some p → IsWellFormedBody g p.0
    body_at p e = wf.bodies p.0 (production_there g t run wf k there p e)

    wiring_owned : (p : ProdNo) → x.production ≡ Some p → (l : Link) → IsIn l (wiring_at k x.first_child (production_at g p.0)) → IsOwned k l
    wiring_owned p e l h = ⊎_elim
        (λ o. let w = out_instance g p.0 (body_at p e) k x.first_child (room p e) l o in inr (w.2, p, e, o.inner.position, w.1, w.0))
        (λ o. inl (ap (λ (z : Port). z.side) o.from, ap (λ (z : Port). z.instance) o.from))
        (cases g p.0 (body_at p e) k x.first_child (room p e) l h)

    pub owned : (l : Link) → IsIn l (links_at g marks leaf t.instances k) → IsOwned k l
    owned = by_links g t run wf small marks leaf k there (λ ls. (l : Link) → IsIn l ls → IsOwned k l)
        (λ e. pairs_owned x.module.0 (get_or leaf x.module.0 None))
        (λ e d. pairs_owned x.module.0 (get_or leaf x.module.0 None))
        (λ p e d. wiring_owned p d)

  -- links that leave one port are of one instance
  same_owner : (j k : ℕ) → j < length t.instances → k < length t.instances → (l m : Link) → IsOwned j l → IsOwned k m → m.from ≡ l.from → k ≡ j
  same_owner j k hj hk l m (inl a) (inl b) e = sym b.1 ∙ (ap (λ (z : Port). z.instance) e ∙ a.1)
  same_owner j k hj hk l m (inl a) (inr b) e = let s : Output ≡ Input = sym b.0 ∙ (ap (λ (z : Port). z.side) e ∙ a.0) in absurd (cc)
  same_owner j k hj hk l m (inr a) (inl b) e = let s : Input ≡ Output = sym b.0 ∙ (ap (λ (z : Port). z.side) e ∙ a.0) in absurd (cc)
  same_owner j k hj hk l m (inr a) (inr b) e = one_parent g t run k j hk hj b.1 a.1 b.2 a.2 b.3 a.3 b.4 a.4 (sym b.5 ∙ (ap (λ (z : Port). z.instance) e ∙ a.5))

  -- from the ports of an open instance no link of another leads elsewhere
  pub leave_once : (k : ℕ) (there : k < length t.instances) (p : ProdNo) → (get_or t.instances k no_instance).production ≡ Some p →
      links_at g marks leaf t.instances k ≡ wiring_at k (get_or t.instances k no_instance).first_child (production_at g p.0) →
      (numbers : List ℕ) → ((j : ℕ) → IsIn j numbers → j < length t.instances) →
      let list = wiring_at k (get_or t.instances k no_instance).first_child (production_at g p.0) in LeaveOnce list (links_among g marks leaf t.instances numbers ++ list)
  leave_once k there p e same numbers all l h m i f = ⊎_elim old (λ j. one m j f) (in_append_cases m (links_among g marks leaf t.instances numbers) (wiring_at k (get_or t.instances k no_instance).first_child (production_at g p.0)) i)
    where
      one : (m : Link) → IsIn m (wiring_at k (get_or t.instances k no_instance).first_child (production_at g p.0)) → m.from ≡ l.from → m.to ≡ l.to
      one m j f = wiring_once g p.0 (body_at k there p e) k (get_or t.instances k no_instance).first_child (room k there p e) l m h j f

      old : IsIn m (links_among g marks leaf t.instances numbers) → m.to ≡ l.to
      old i =
          let r = in_flat_map_from (links_at g marks leaf t.instances) m numbers i in
          let low = all r.0 r.1 in
          let s : r.0 ≡ k = same_owner k r.0 there low l m (owned k there l (subst (IsIn l) (sym same) h)) (owned r.0 low m r.2) f in
          one m (subst (IsIn m) same (subst (λ z. IsIn m (links_at g marks leaf t.instances z)) s r.2)) f

  -- what leaves an input of an instance is a link of that instance
  pub input_owned : (k : ℕ) (numbers : List ℕ) → ((j : ℕ) → IsIn j numbers → j < length t.instances) → (l : Link) → IsIn l (links_among g marks leaf t.instances numbers) → l.from.instance ≡ k → l.from.side ≡ Input → IsIn l (links_at g marks leaf t.instances k)
  input_owned k numbers all l i e s =
      let r = in_flat_map_from (links_at g marks leaf t.instances) l numbers i in
      by r.0 r.2 (owned r.0 (all r.0 r.1) l r.2)
    where
      by : (j : ℕ) → IsIn l (links_at g marks leaf t.instances j) → IsOwned j l → IsIn l (links_at g marks leaf t.instances k)
      by j h (inl a) = subst (λ z. IsIn l (links_at g marks leaf t.instances z)) (sym a.1 ∙ e) h
      by j h (inr a) = let d : Output ≡ Input = sym a.0 ∙ s in absurd (cc)
