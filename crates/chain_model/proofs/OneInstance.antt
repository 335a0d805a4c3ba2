-- One instance alone consumes an item, and one alone produces it.
use Rattle.std.proofs.Common.{◌≡◌, ℕ, suc, ◌≤◌, List, [], ◌∷◌, get_or, drop, Option, refl, sym, ap, ◌∙◌, subst, inl, inr, arith}
use Rattle.std.proofs.lemmas.Option.{same_Some}
use Rattle.wf_model.specs.Lists.{IsIn, Walk, here, onward}
use Rattle.wf_model.specs.Grammar.{Grammar, Assignment, Inner, production_at}
use Rattle.wf_model.specs.View.{View}
use Rattle.wf_model.specs.declared.event.Event.{Event}
use Rattle.wf_model.specs.Run.{Instance, Expanded, made, expanded_by, IsRun, IsOpen, seen_in}
use Rattle.wf_model.specs.Links.{Port, Link, input, output, entry_links, exit_links, instance_at, move_port}
use Rattle.wf_model.specs.Items.{Item}
use Rattle.wf_model.proofs.Walks.{walk-append, walk_one}
use Rattle.wf_model.proofs.Runs.{run_state}
use Rattle.wf_model.proofs.Differ.{one_of_name}
use Rattle.wf_model.proofs.Taking.{run_differs}
use Rattle.wf_model.proofs.Level.{in_entry_links, in_exit_links}
use Rattle.wf_model.proofs.Expanding.{one_expansion}
use Rattle.chain_model.specs.Chains.{entries_in, exits_in, IsEntry, IsExit, ChainStep, StepsLead}
use Rattle.chain_model.specs.Shortest.{items_along}
use Rattle.chain_model.specs.Laws.{ViaLaw, ChainItemsLaw}

-- the k-th entry begins at the k-th input, so two entries from one input are one
entry_number : (l : Link (Option ℕ)) (k : ℕ) (is : List Inner) → IsIn l (entry_links k is) → k ≤ l.from.number
entry_number l k [] h = absurd h
entry_number l k (i ∷ is) (inl e) = let n : l.from.number ≡ k = ap (λ (z : Link (Option ℕ)). z.from.number) e in omega arith
entry_number l k (i ∷ is) (inr h) = let r = entry_number l (suc k) is h in omega arith

one_entry : (l j : Link (Option ℕ)) (k : ℕ) (is : List Inner) → IsIn l (entry_links k is) → IsIn j (entry_links k is) → l.from.number ≡ j.from.number → l ≡ j
one_entry l j k [] h q e = absurd h
one_entry l j k (i ∷ is) (inl a) (inl b) e = a ∙ sym b
one_entry l j k (i ∷ is) (inl a) (inr b) e = let n : l.from.number ≡ k = ap (λ (z : Link (Option ℕ)). z.from.number) a in let r = entry_number j (suc k) is b in absurd (omega arith)
one_entry l j k (i ∷ is) (inr a) (inl b) e = let n : j.from.number ≡ k = ap (λ (z : Link (Option ℕ)). z.from.number) b in let r = entry_number l (suc k) is a in absurd (omega arith)
one_entry l j k (i ∷ is) (inr a) (inr b) e = one_entry l j (suc k) is a b e

-- and the k-th exit ends at the k-th output
exit_number : (l : Link (Option ℕ)) (k : ℕ) (is : List Inner) → IsIn l (exit_links k is) → k ≤ l.to.number
exit_number l k [] h = absurd h
exit_number l k (i ∷ is) (inl e) = let n : l.to.number ≡ k = ap (λ (z : Link (Option ℕ)). z.to.number) e in omega arith
exit_number l k (i ∷ is) (inr h) = let r = exit_number l (suc k) is h in omega arith

one_exit : (l j : Link (Option ℕ)) (k : ℕ) (is : List Inner) → IsIn l (exit_links k is) → IsIn j (exit_links k is) → l.to.number ≡ j.to.number → l ≡ j
one_exit l j k [] h q e = absurd h
one_exit l j k (i ∷ is) (inl a) (inl b) e = a ∙ sym b
one_exit l j k (i ∷ is) (inl a) (inr b) e = let n : l.to.number ≡ k = ap (λ (z : Link (Option ℕ)). z.to.number) a in let r = exit_number j (suc k) is b in absurd (omega arith)
one_exit l j k (i ∷ is) (inr a) (inl b) e = let n : j.to.number ≡ k = ap (λ (z : Link (Option ℕ)). z.to.number) b in let r = exit_number l (suc k) is a in absurd (omega arith)
one_exit l j k (i ∷ is) (inr a) (inr b) e = one_exit l j (suc k) is a b e

-- two walks from one point end at one, where each point leads to one and neither end leads on
pub one_end : {A : Type 0} {R : A → A → Type 0} → ((x y z : A) → R x y → R x z → y ≡ z) → {x a b : A} → ((y : A) → R a y → ⊥) → ((y : A) → R b y → ⊥) → Walk R x a → Walk R x b → a ≡ b
one_end one na nb here here = refl
one_end one na nb here (onward {y = y} s v) = absurd (na y s)
one_end one na nb (onward {y = y} r w) here = absurd (nb y r)
one_end {A} {R} one {x} {a} {b} na nb (onward {y = y} r w) (onward {y = z} s v) = one_end one na nb w (subst (λ k. Walk R k b) (one x z y s r) v)

-- a walk, gone back
pub turned : {A : Type 0} {R : A → A → Type 0} {x y : A} → Walk R x y → Walk (λ a b. R b a) y x
turned here = here
turned (onward r w) = walk-append (turned w) (walk_one r)

module _ (g : Grammar) (u : View) (m : ℕ) (events : List Event) (run : IsRun g m events) where
  -- two seen instances with one name are one
  pub one_seen : (n k : Instance) → IsIn n (seen_in g u m events) → IsIn k (seen_in g u m events) → n.name ≡ k.name → n ≡ k
  one_seen n k hn hk e = let st = run_state g u m events run in one_of_name (made g m events) (run_differs g m events run) n k (st.seen_made n hn) (st.seen_made k hk) e

  entry_owner : (x y : Port (List ℕ)) (h : IsEntry g u m events x y) → (x.owner ≡ h.owner.name) × (x.number ≡ h.inner.from.number)
  entry_owner x y h =
      let q = in_entry_links h.inner 0 (production_at g h.by.production).entries h.in_body in
      (ap (λ (l : Link (List ℕ)). l.from.owner) h.is ∙ ap (λ (l : Link (Option ℕ)). instance_at h.owner.name h.by.names l.from.owner) q.4, ap (λ (l : Link (List ℕ)). l.from.number) h.is)

  exit_owner : (x y : Port (List ℕ)) (h : IsExit g u m events x y) → (y.owner ≡ h.owner.name) × (y.number ≡ h.inner.to.number)
  exit_owner x y h =
      let q = in_exit_links h.inner 0 (production_at g h.by.production).exits h.in_body in
      (ap (λ (l : Link (List ℕ)). l.to.owner) h.is ∙ ap (λ (l : Link (Option ℕ)). instance_at h.owner.name h.by.names l.to.owner) q.4, ap (λ (l : Link (List ℕ)). l.to.number) h.is)

  -- from an input one entry leads at most, and to an output one exit
  pub entry_once : (x y z : Port (List ℕ)) → IsEntry g u m events x y → IsEntry g u m events x z → y ≡ z
  entry_once x y z a b =
      let oa = entry_owner x y a in
      let ob = entry_owner x z b in
      let name : a.owner.name ≡ b.owner.name = sym oa.0 ∙ ob.0 in
      let by : a.by ≡ b.by = one_expansion (expanded_by events a.owner.name) a.by b.by a.told (ap (expanded_by events) name ∙ b.told) in
      let inner : a.inner ≡ b.inner = one_entry a.inner b.inner 0 (production_at g a.by.production).entries a.in_body (subst (λ (w : Expanded). IsIn b.inner (entries_in g w.production)) (sym by) b.in_body) (sym oa.1 ∙ ob.1) in
      ap (λ (l : Link (List ℕ)). l.to) a.is ∙ ((λ t. move_port (instance_at (name t) (by t).names) (inner t).to) ∙ sym (ap (λ (l : Link (List ℕ)). l.to) b.is))

  pub exit_once : (z x y : Port (List ℕ)) → IsExit g u m events x z → IsExit g u m events y z → x ≡ y
  exit_once z x y a b =
      let oa = exit_owner x z a in
      let ob = exit_owner y z b in
      let name : a.owner.name ≡ b.owner.name = sym oa.0 ∙ ob.0 in
      let by : a.by ≡ b.by = one_expansion (expanded_by events a.owner.name) a.by b.by a.told (ap (expanded_by events) name ∙ b.told) in
      let inner : a.inner ≡ b.inner = one_exit a.inner b.inner 0 (production_at g a.by.production).exits a.in_body (subst (λ (w : Expanded). IsIn b.inner (exits_in g w.production)) (sym by) b.in_body) (sym oa.1 ∙ ob.1) in
      ap (λ (l : Link (List ℕ)). l.from) a.is ∙ ((λ t. move_port (instance_at (name t) (by t).names) (inner t).from) ∙ sym (ap (λ (l : Link (List ℕ)). l.from) b.is))

  -- no entry leads from an instance that is not open, and no exit to it
  pub no_entry : (n : Instance) → IsIn n (seen_in g u m events) → ¬ IsOpen g u m events n → (i : ℕ) (y : Port (List ℕ)) → IsEntry g u m events (input n.name i) y → ⊥
  no_entry n s not i y h = not (subst (IsOpen g u m events) (sym (one_seen n h.owner s h.is_open.0 (entry_owner (input n.name i) y h).0)) h.is_open)

  pub no_exit : (n : Instance) → IsIn n (seen_in g u m events) → ¬ IsOpen g u m events n → (o : ℕ) (x : Port (List ℕ)) → IsExit g u m events x (output n.name o) → ⊥
  no_exit n s not o x h = not (subst (IsOpen g u m events) (sym (one_seen n h.owner s h.is_open.0 (exit_owner x (output n.name o) h).0)) h.is_open)

pub via_law : ViaLaw
via_law g u d m events run x y n k =
    record {
      consumed = λ s t a b.
          let from : a.from ≡ b.from = same_Some a.from b.from (sym a.consumed ∙ b.consumed) in
          let ports : input n.name a.i ≡ input k.name b.i = one_end (entry_once g u m events run) (no_entry g u m events run n a.seen a.not_open a.i) (no_entry g u m events run k b.seen b.not_open b.i)
          a.entries (subst (λ z. Walk (IsEntry g u m events) z (input k.name b.i)) (sym from) b.entries) in
          one_seen g u m events run n k a.seen b.seen (ap (λ (z : Port (List ℕ)). z.owner) ports);
      produced = λ s t a b.
          let to : a.to ≡ b.to = same_Some a.to b.to (sym a.produced ∙ b.produced) in
          let ports : output n.name a.o ≡ output k.name b.o = one_end {R = λ p q. IsExit g u m events q p} (exit_once g u m events run) (no_exit g u m events run n a.seen a.not_open a.o) (no_exit g u m events run k b.seen b.not_open b.o)
          (turned a.exits) (turned (subst (λ z. Walk (IsExit g u m events) (output k.name b.o) z) (sym to) b.exits)) in
          one_seen g u m events run n k a.seen b.seen (ap (λ (z : Port (List ℕ)). z.owner) ports);
    }

-- steps from one item that have the same items are the same
pub same_steps : (g : Grammar) (u : View) (d : Assignment) (m : ℕ) (events : List Event) → IsRun g m events → (x y z : Item) (steps others : List ChainStep) →
    StepsLead g u d m events x steps y → StepsLead g u d m events x others z → items_along steps ≡ items_along others → steps ≡ others
same_steps g u d m events run x y z [] [] a b e = refl
same_steps g u d m events run x y z [] (t ∷ others) a b e = absurd (cc)
same_steps g u d m events run x y z (s ∷ steps) [] a b e = absurd (cc)
same_steps g u d m events run x y z (s ∷ steps) (t ∷ others) a b e =
    let item : s.item ≡ t.item = ap (λ (l : List Item). get_or l 0 s.item) e in
    let via : s.via ≡ t.via = (via_law g u d m events run x y s.via t.via).consumed s.item t.item a.0.through b.0.through in
    let rest = same_steps g u d m events run s.item y z steps others a.1 (subst (λ w. StepsLead g u d m events w others z) (sym item) b.1) (ap (drop 1) e) in
    λ k. record { via = via k; item = item k } ∷ rest k

pub chain_items_law : ChainItemsLaw
chain_items_law g u d m events run x y steps others a b e = same_steps g u d m events run x y y steps others a.steps_lead b.steps_lead e
