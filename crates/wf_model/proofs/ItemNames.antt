-- The items of a run have different names.
use Rattle.std.proofs.Common.{◌≡◌, ℕ, zero, suc, ◌+◌, ◌<◌, ◌⊎◌, Bool, true, false, cond, List, [], ◌∷◌, ◌++◌, map, length, get_or, filter, codes, Some, None, refl, sym, ap, ◌∙◌, subst, inl, inr, ⊎_elim, arith, append_assoc, true≢false}
use Rattle.std.proofs.lemmas.List.{append_cancel_left, map-append}
use Rattle.std.proofs.lemmas.List.Sums.{length-filter}
use Rattle.std.proofs.lemmas.Bool.Decides.{nat_tests}
use Rattle.wf_model.specs.Lists.{IsIn, IsAt, AllDiffer}
use Rattle.wf_model.specs.Grammar.{Grammar, Module, Inner, Edge, production_at, module_at, outputs_of, body_of}
use Rattle.wf_model.specs.WellFormed.{IsWellFormed, IsWellFormedBody, same_inner}
use Rattle.wf_model.specs.declared.event.Event.{Event}
use Rattle.wf_model.specs.declared.event.Event.TheVariants.{Start, Expand}
use Rattle.wf_model.specs.Run.{Instance, IsName, IsNameByte, made_by, made, names_of, Extends, AllExtend, IsRun}
use Rattle.wf_model.specs.Links.{input, output}
use Rattle.wf_model.specs.Items.{Item, dotted, input_items, output_items, edge_item, items_by, items}
use Rattle.wf_model.proofs.Lists.{in_append_left, in_append_right, in_append_cases, in_map, in_map_from, in_flat_map_from, in_filter, at_below, at_is, is_at, at_in, differ_at}
use Rattle.wf_model.proofs.Runs.{names-named}
use Rattle.wf_model.proofs.Differ.{made_differ}
use Rattle.wf_model.proofs.Positions.{has_length}

-- a name has no dot
pub no_dot : (n : List ℕ) → IsName n → IsIn 46 n → ⊥
no_dot n h i = go (h.1 46 i)
  where
    go : IsNameByte 46 → ⊥
    go (inl a) = let x = a.0 in omega arith
    go (inr (inl a)) = let x = a.0 in omega arith
    go (inr (inr (inl a))) = let x = a.0 in omega arith
    go (inr (inr (inr (inl e)))) = omega arith
    go (inr (inr (inr (inr e)))) = omega arith

pub dotted_at : (a b : List ℕ) → dotted a b ≡ a ++ 46 ∷ b
dotted_at a b = append_assoc a (codes ".") b

abbrev tail_of_list : List ℕ → List ℕ
tail_of_list [] = []
tail_of_list (x ∷ xs) = xs

-- what stands before the first dot, and what stands after it, are told by the whole
pub dotted_same : (a b c d : List ℕ) → (IsIn 46 a → ⊥) → (IsIn 46 c → ⊥) → dotted a b ≡ dotted c d → (a ≡ c) × (b ≡ d)
dotted_same [] b [] d ha hc e = (refl, append_cancel_left (codes ".") b d e)
dotted_same [] b (y ∷ c) d ha hc e = absurd (hc (inl (ap (λ (l : List ℕ). get_or l 0 0) e)))
dotted_same (x ∷ a) b [] d ha hc e = absurd (ha (inl (sym (ap (λ (l : List ℕ). get_or l 0 0) e))))
dotted_same (x ∷ a) b (y ∷ c) d ha hc e =
    let r = dotted_same a b c d (λ i. ha (inr i)) (λ i. hc (inr i)) (ap tail_of_list e) in
    let h : x ≡ y = ap (λ (l : List ℕ). get_or l 0 0) e in
    ((λ t. h t ∷ r.0 t), r.1)

pub differ_left : {A : Type 0} (xs ys : List A) → AllDiffer (xs ++ ys) → AllDiffer xs
differ_left [] ys d = tt
differ_left (x ∷ xs) ys d = ((λ i. d.0 (in_append_left x xs ys i)), differ_left xs ys d.1)

pub differ_right : {A : Type 0} (xs ys : List A) → AllDiffer (xs ++ ys) → AllDiffer ys
differ_right [] ys d = d
differ_right (x ∷ xs) ys d = differ_right xs ys d.1

differ_apart : {A : Type 0} (x : A) (xs ys : List A) → AllDiffer (xs ++ ys) → IsIn x xs → IsIn x ys → ⊥
differ_apart x [] ys d i j = i
differ_apart x (y ∷ xs) ys d (inl e) j = d.0 (subst (λ z. IsIn z (xs ++ ys)) e (in_append_right x xs ys j))
differ_apart x (y ∷ xs) ys d (inr i) j = differ_apart x xs ys d.1 i j

-- where one element of a list passes a test, two that pass it are one
one_counted : {A B : Type 0} (f : A → B) (p : B → Bool) (xs : List A) (ys : List B) → length (filter p (map f xs ++ ys)) ≡ 1 → (a b : A) → IsIn a xs → IsIn b xs → p (f a) ≡ true → p (f b) ≡ true → a ≡ b
one_counted f p [] ys h a b i j s t = absurd i
one_counted {A} {B} f p (x ∷ xs) ys h a b i j s t = go (λ n i j. one_counted f p xs ys n a b i j s t) (p (f x)) refl h i j
  where
    in_rest : (c : A) → IsIn c xs → p (f c) ≡ true → 0 < length (filter p (map f xs ++ ys))
    in_rest c i s = has_length (f c) _ (in_filter p (f c) (map f xs ++ ys) (in_append_left (f c) (map f xs) ys (in_map f c xs i)) s)

    not_here : (c : A) → p (f x) ≡ false → c ≡ x → p (f c) ≡ true → ⊥
    not_here c e k s = true≢false (sym s ∙ (ap (λ z. p (f z)) k ∙ e))

    go : (length (filter p (map f xs ++ ys)) ≡ 1 → IsIn a xs → IsIn b xs → a ≡ b) → (c : Bool) → p (f x) ≡ c → length (cond c (f x ∷ filter p (map f xs ++ ys)) (filter p (map f xs ++ ys))) ≡ 1 → IsIn a (x ∷ xs) → IsIn b (x ∷ xs) → a ≡ b
    go ih true e n (inl i) (inl j) = i ∙ sym j
    go ih true e n (inl i) (inr j) = let r = in_rest b j t in absurd (omega arith)
    go ih true e n (inr i) j = let r = in_rest a i s in absurd (omega arith)
    go ih false e n (inl i) j = absurd (not_here a e i s)
    go ih false e n (inr i) (inl j) = absurd (not_here b e j t)
    go ih false e n (inr i) (inr j) = ih n i j

-- an event of a run extends what stands before it
pub extends_before : (g : Grammar) (m : ℕ) (b a : List Event) (e : Event) → AllExtend g m b a → IsIn e a → (before : List Event) × Extends g m before e
extends_before g m b [] e h i = absurd i
extends_before g m b (d ∷ a) e h (inl q) = (b, subst (Extends g m b) (sym q) h.0)
extends_before g m b (d ∷ a) e h (inr i) = extends_before g m (b ++ d ∷ []) a e h.1 i

pub name_made : (g : Grammar) (m : ℕ) (n : List ℕ) (e : Event) (a : List Event) → IsIn e a → IsIn n (names_of (made_by g m e)) → IsIn n (names_of (made g m a))
name_made g m n e [] i h = absurd i
name_made g m n e (d ∷ a) (inl q) h =
    subst (IsIn n) (sym (map-append (λ (j : Instance). j.name) (made_by g m d) (made g m a)))
    (in_append_left n (names_of (made_by g m d)) _ (subst (λ z. IsIn n (names_of (made_by g m z))) q h))
name_made g m n e (d ∷ a) (inr i) h =
    subst (IsIn n) (sym (map-append (λ (j : Instance). j.name) (made_by g m d) (made g m a)))
    (in_append_right n (names_of (made_by g m d)) _ (name_made g m n e a i h))

-- an instance is made by one event
pub made_once : (g : Grammar) (m : ℕ) (n : List ℕ) (a : List Event) → AllDiffer (names_of (made g m a)) → (d e : Event) → IsIn d a → IsIn e a → IsIn n (names_of (made_by g m d)) → IsIn n (names_of (made_by g m e)) → d ≡ e
made_once g m n [] w d e i j h k = absurd i
made_once g m n (x ∷ a) w d e i j h k = go (λ i j. made_once g m n a (differ_right (names_of (made_by g m x)) _ split) d e i j h k) i j
  where
    split : AllDiffer (names_of (made_by g m x) ++ names_of (made g m a))
    split = subst AllDiffer (map-append (λ (j : Instance). j.name) (made_by g m x) (made g m a)) w

    both : (c : Event) (z : Event) → z ≡ x → IsIn n (names_of (made_by g m z)) → IsIn c a → IsIn n (names_of (made_by g m c)) → ⊥
    both c z q h i k = differ_apart n (names_of (made_by g m x)) _ split (subst (λ y. IsIn n (names_of (made_by g m y))) q h) (name_made g m n c a i k)

    go : (IsIn d a → IsIn e a → d ≡ e) → IsIn d (x ∷ a) → IsIn e (x ∷ a) → d ≡ e
    go ih (inl p) (inl q) = p ∙ sym q
    go ih (inl p) (inr q) = absurd (both e d p h q k)
    go ih (inr p) (inl q) = absurd (both d e q k p h)
    go ih (inr p) (inr q) = ih p q

-- the item of an input of the root, and that of an output
abbrev pub input_item : List ℕ → ℕ → List ℕ → Item
input_item r k n = record { name = dotted r n; maker = None; produced = None; consumed = Some (input r k) }

abbrev pub output_item : List ℕ → ℕ → List ℕ → Item
output_item r k n = record { name = dotted r n; maker = None; produced = Some (output r k); consumed = None }

pub in_input_items : (t : Item) (r : List ℕ) (k : ℕ) (ns : List (List ℕ)) → IsIn t (input_items r k ns) → (j : ℕ) × (n : List ℕ) × IsAt n j ns × (t ≡ input_item r (k + j) n)
in_input_items t r k [] h = absurd h
in_input_items t r k (n ∷ ns) (inl e) = (0, n, refl, (let q : k ≡ k + 0 = omega arith in subst (λ z. t ≡ input_item r z n) q e))
in_input_items t r k (n ∷ ns) (inr h) =
    let i = in_input_items t r (suc k) ns h in
    (suc i.0, i.1, i.2, (let q : suc k + i.0 ≡ k + suc i.0 = omega arith in subst (λ z. t ≡ input_item r z i.1) q i.3))

pub in_output_items : (t : Item) (r : List ℕ) (k : ℕ) (ns : List (List ℕ)) → IsIn t (output_items r k ns) → (j : ℕ) × (n : List ℕ) × IsAt n j ns × (t ≡ output_item r (k + j) n)
in_output_items t r k [] h = absurd h
in_output_items t r k (n ∷ ns) (inl e) = (0, n, refl, (let q : k ≡ k + 0 = omega arith in subst (λ z. t ≡ output_item r z n) q e))
in_output_items t r k (n ∷ ns) (inr h) =
    let i = in_output_items t r (suc k) ns h in
    (suc i.0, i.1, i.2, (let q : suc k + i.0 ≡ k + suc i.0 = omega arith in subst (λ z. t ≡ output_item r z i.1) q i.3))

-- an element of a list, or what stands for one past its end
element_or : {A : Type 0} (k : ℕ) (xs : List A) (d : A) → IsIn (get_or xs k d) xs ⊎ (get_or xs k d ≡ d)
element_or k [] d = inr refl
element_or zero (x ∷ xs) d = inl (inl refl)
element_or (suc k) (x ∷ xs) d = ⊎_elim (λ a. inl (inr a)) (λ b. inr b) (element_or k xs d)

pub ports_differ : (g : Grammar) → IsWellFormed g → (m : ℕ) → AllDiffer ((module_at g m).inputs ++ (module_at g m).outputs)
ports_differ g wf m =
    ⊎_elim (λ a. (wf.modules (module_at g m) a).ports_differ) (λ (e : module_at g m ≡ record { name = []; inputs = []; outputs = [] }). subst (λ (z : Module). AllDiffer (z.inputs ++ z.outputs)) (sym e) tt)
    (element_or m g.modules (record { name = []; inputs = []; outputs = [] }))

-- two ports of the root with one name are one
root_items : (r : List ℕ) (ins outs : List (List ℕ)) → AllDiffer (ins ++ outs) → IsName r → (s t : Item) → IsIn s (input_items r 0 ins ++ output_items r 0 outs) → IsIn t (input_items r 0 ins ++ output_items r 0 outs) → s.name ≡ t.name → s ≡ t
root_items r ins outs d hr s t hs ht e = go (in_append_cases s (input_items r 0 ins) (output_items r 0 outs) hs) (in_append_cases t (input_items r 0 ins) (output_items r 0 outs) ht)
  where
    ports_same : (n k : List ℕ) → s.name ≡ dotted r n → t.name ≡ dotted r k → n ≡ k
    ports_same n k a b = (dotted_same r n r k (no_dot r hr) (no_dot r hr) (sym a ∙ (e ∙ b))).1

    go : IsIn s (input_items r 0 ins) ⊎ IsIn s (output_items r 0 outs) → IsIn t (input_items r 0 ins) ⊎ IsIn t (output_items r 0 outs) → s ≡ t
    go (inl a) (inl b) =
        let x = in_input_items s r 0 ins a in let y = in_input_items t r 0 ins b in
        let n = ports_same x.1 y.1 (ap (λ (z : Item). z.name) x.3) (ap (λ (z : Item). z.name) y.3) in
        let k = differ_at y.1 x.0 y.0 ins (differ_left ins outs d) (subst (λ z. IsAt z x.0 ins) n x.2) y.2 in
        x.3 ∙ ((λ i. input_item r (0 + k i) (n i)) ∙ sym y.3)
    go (inl a) (inr b) =
        let x = in_input_items s r 0 ins a in let y = in_output_items t r 0 outs b in
        let n = ports_same x.1 y.1 (ap (λ (z : Item). z.name) x.3) (ap (λ (z : Item). z.name) y.3) in
        absurd (differ_apart y.1 ins outs d (subst (λ z. IsIn z ins) n (at_in x.1 x.0 ins x.2)) (at_in y.1 y.0 outs y.2))
    go (inr a) (inl b) =
        let x = in_output_items s r 0 outs a in let y = in_input_items t r 0 ins b in
        let n = ports_same x.1 y.1 (ap (λ (z : Item). z.name) x.3) (ap (λ (z : Item). z.name) y.3) in
        absurd (differ_apart x.1 ins outs d (subst (λ z. IsIn z ins) (sym n) (at_in y.1 y.0 ins y.2)) (at_in x.1 x.0 outs x.2))
    go (inr a) (inr b) =
        let x = in_output_items s r 0 outs a in let y = in_output_items t r 0 outs b in
        let n = ports_same x.1 y.1 (ap (λ (z : Item). z.name) x.3) (ap (λ (z : Item). z.name) y.3) in
        let k = differ_at y.1 x.0 y.0 outs (differ_right ins outs d) (subst (λ z. IsAt z x.0 outs) n x.2) y.2 in
        x.3 ∙ ((λ i. output_item r (0 + k i) (n i)) ∙ sym y.3)

pub same_itself : (i : Inner) → same_inner i i ≡ true
same_itself i = grind (arith, nat_tests)

-- what stands at two places of a list whose elements differ is one thing only where the places are one
one_place : {A : Type 0} (xs : List A) (d : A) (j k : ℕ) → AllDiffer xs → j < length xs → k < length xs → get_or xs j d ≡ get_or xs k d → j ≡ k
one_place xs d j k w hj hk e = differ_at (get_or xs j d) j k xs w (is_at j xs d hj) (subst (λ z. IsAt z k xs) (sym e) (is_at k xs d hk))

-- the producing instance of an edge's item, and the place where it stands
module _ (g : Grammar) (wf : IsWellFormed g) (p : ℕ) (body : IsWellFormedBody g p) (names : List (List ℕ)) (one_each : length names ≡ length (body_of g p)) where
  abbrev from_name : Edge → List ℕ
  from_name e = get_or names e.from.position []

  abbrev port_name : Edge → List ℕ
  port_name e = get_or (module_at g (get_or (body_of g p) e.from.position 0)).outputs e.from.port []

  from_below : (e : Edge) → IsIn e (production_at g p).edges → e.from.position < length names
  from_below e h = let w = body.edges_from e h in let b = at_below w.0 e.from.position (body_of g p) w.1 in omega arith

  from_in : (e : Edge) → IsIn e (production_at g p).edges → IsIn (from_name e) names
  from_in e h = at_in _ e.from.position names (is_at e.from.position names [] (from_below e h))

  port_below : (e : Edge) → IsIn e (production_at g p).edges → e.from.port < length (module_at g (get_or (body_of g p) e.from.position 0)).outputs
  port_below e h = let w = body.edges_from e h in subst (λ z. e.from.port < outputs_of g z) (sym (at_is w.0 e.from.position (body_of g p) 0 w.1)) w.2

  -- two edges that begin at one port of one instance are one
  edges_same : AllDiffer names → (c e : Edge) → IsIn c (production_at g p).edges → IsIn e (production_at g p).edges → from_name c ≡ from_name e → port_name c ≡ port_name e → c ≡ e
  edges_same differ c e hc he n q =
      let place : c.from.position ≡ e.from.position = one_place names [] c.from.position e.from.position differ (from_below c hc) (from_below e he) n in
      let outs : ℕ → List (List ℕ) = λ k. (module_at g (get_or (body_of g p) k 0)).outputs in
      let port : c.from.port ≡ e.from.port =
      one_place (outs e.from.position) [] c.from.port e.from.port (differ_right (module_at g (get_or (body_of g p) e.from.position 0)).inputs (outs e.from.position) (ports_differ g wf (get_or (body_of g p) e.from.position 0)))
      (subst (λ k. c.from.port < length (outs k)) place (port_below c hc)) (port_below e he) (subst (λ k. get_or (outs k) c.from.port [] ≡ port_name e) place q) in
      let inner : c.from ≡ e.from = λ i. record { position = place i; port = port i } in
      one_counted (λ (z : Edge). z.from) (same_inner c.from) (production_at g p).edges (production_at g p).exits (length-filter (same_inner c.from) _ ∙ body.used_once c.from (body.edges_from c hc)) c e hc he
      (same_itself c.from) (subst (λ z. same_inner c.from z ≡ true) inner (same_itself c.from))

-- an item that an event makes is named by an instance that the event makes, a dot and a port
pub record IsNamedBy (g : Grammar) (m : ℕ) (e : Event) (t : Item) : Type 0 where
  pub owner : List ℕ
  pub port : List ℕ
  pub made : IsIn owner (names_of (made_by g m e))
  pub good : IsName owner
  pub dots : t.name ≡ dotted owner port

module _ (g : Grammar) (wf : IsWellFormed g) (m : ℕ) (before : List Event) where
  named_by : (e : Event) → Extends g m before e → (t : Item) → IsIn t (items_by g m e) → IsNamedBy g m e t
  named_by (Start r) x t h =
      ⊎_elim
      (λ a. let q = in_input_items t r 0 _ a in record { owner = r; port = q.1; made = inl refl; good = x.1; dots = ap (λ (z : Item). z.name) q.3 })
      (λ a. let q = in_output_items t r 0 _ a in record { owner = r; port = q.1; made = inl refl; good = x.1; dots = ap (λ (z : Item). z.name) q.3 })
      (in_append_cases t (input_items r 0 (module_at g m).inputs) (output_items r 0 (module_at g m).outputs) h)
  named_by (Expand i p names) can t h =
      let q = in_map_from (edge_item g i p names) t (production_at g p).edges h in
      let c = from_in g wf p (wf.bodies p can.in_range) names can.one_each q.0 q.1 in
      record {
        owner = get_or names q.0.from.position [];
        port = get_or (module_at g (get_or (body_of g p) q.0.from.position 0)).outputs q.0.from.port [];
        made = subst (IsIn _) (sym (names-named names (body_of g p) can.one_each)) c;
        good = can.good _ c;
        dots = ap (λ (z : Item). z.name) q.2;
      }

  -- two items of one event with one name are one
  by_one : (e : Event) → Extends g m before e → (s t : Item) → IsIn s (items_by g m e) → IsIn t (items_by g m e) → s.name ≡ t.name → s ≡ t
  by_one (Start r) x s t hs ht e = root_items r (module_at g m).inputs (module_at g m).outputs (ports_differ g wf m) x.1 s t hs ht e
  by_one (Expand i p names) can s t hs ht e =
      let a = in_map_from (edge_item g i p names) s (production_at g p).edges hs in
      let b = in_map_from (edge_item g i p names) t (production_at g p).edges ht in
      let body = wf.bodies p can.in_range in
      let ca = can.good _ (from_in g wf p body names can.one_each a.0 a.1) in
      let cb = can.good _ (from_in g wf p body names can.one_each b.0 b.1) in
      let d = dotted_same _ _ _ _ (no_dot _ ca) (no_dot _ cb) (sym (ap (λ (z : Item). z.name) a.2) ∙ (e ∙ ap (λ (z : Item). z.name) b.2)) in
      a.2 ∙ (ap (edge_item g i p names) (edges_same g wf p body names can.one_each can.differ a.0 b.0 a.1 b.1 d.0 d.1) ∙ sym b.2)

-- two items of a run with one name are one item
pub item_of_name : (g : Grammar) (m : ℕ) (events : List Event) → IsWellFormed g → IsRun g m events → (s t : Item) → IsIn s (items g m events) → IsIn t (items g m events) → s.name ≡ t.name → s ≡ t
item_of_name g m events wf run s t hs ht e =
    let a = in_flat_map_from (items_by g m) s events hs in
    let b = in_flat_map_from (items_by g m) t events ht in
    let xa = extends_before g m [] events a.0 run a.1 in
    let xb = extends_before g m [] events b.0 run b.1 in
    let na = named_by g wf m xa.0 a.0 xa.1 s a.2 in
    let nb = named_by g wf m xb.0 b.0 xb.1 t b.2 in
    let d = dotted_same na.owner na.port nb.owner nb.port (no_dot _ na.good) (no_dot _ nb.good) (sym na.dots ∙ (e ∙ nb.dots)) in
    let one = made_once g m na.owner events (made_differ g m [] events tt run) a.0 b.0 a.1 b.1 na.made (subst (λ z. IsIn z (names_of (made_by g m b.0))) (sym d.0) nb.made) in
    by_one g wf m xa.0 a.0 xa.1 s t a.2 (subst (λ z. IsIn t (items_by g m z)) (sym one) b.2) e
