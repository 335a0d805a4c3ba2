-- Paths between the ports of a flat graph, by number and by name.
use Rattle.std.proofs.Common.{◌≡◌, ℕ, ◌<◌, ◌⊎◌, ◌↔◌, List, [], length, get_or, refl, sym, ap, subst, ◌∙◌, inl, inr, ⊎_elim}
use Rattle.wf_model.specs.Lists.{IsIn, IsAt, AllDiffer, Walk, here, onward}
use Rattle.wf_model.specs.Links.{Port, Link, IsLinked, Path}
use Rattle.wf_model.proofs.Lists.{in_map, in_map_from, is_at, differ_at}
use Rattle.wf_model.proofs.Walks.{walk_through, walk_one}
use Rattle.wf_flat.specs.declared.graph.Port.{Port as PortHeld}
use Rattle.wf_flat.specs.declared.graph.Link.{Link as LinkHeld}
use Rattle.wf_flat.specs.Graph.{named_port, named_link, named_links}
use Rattle.wf_graph.specs.Graph.{HasStep}
use Rattle.wf_flat.specs.declared.module_rows.Row.{Row}
use Rattle.wf_flat.specs.Numbering.{number_of, IsNumbered}
use Rattle.wf_flat.specs.Leading.{led_from, IsIndex}
use Rattle.wf_flat.specs.Flat.{AreWithin, numbered_port, numbered_link, numbered_links}
use Rattle.wf_flat.proofs.Numbers.{number_same}

numbered_same : (x y : PortHeld) → numbered_port x ≡ numbered_port y → x ≡ y
numbered_same x y e = (λ t. record { instance = (e t).owner; side = (e t).side; port = record { 0 = (e t).number } })

-- what a link of numbered ports is
link_from : (p q : Port ℕ) (ls : List LinkHeld) → IsLinked (numbered_links ls) p q → (l : LinkHeld) × IsIn l ls × (p ≡ numbered_port l.from) × (q ≡ numbered_port l.to)
link_from p q ls h = let r = in_map_from numbered_link (record { from = p; to = q }) ls h in (r.0, r.1, ap (λ (l : Link ℕ). l.from) r.2, ap (λ (l : Link ℕ). l.to) r.2)

module _ (ls : List LinkHeld) (begins words : List ℕ) (rows : List Row) (index : IsIndex ls begins words rows) where
  same_port : (x y : PortHeld) → IsNumbered begins x → IsNumbered begins y → number_of begins x ≡ number_of begins y → x ≡ y
  same_port = number_same begins index.rising

  forth : {a b : ℕ} → Walk (HasStep (led_from words rows)) a b → (x y : PortHeld) → IsNumbered begins x → IsNumbered begins y → number_of begins x ≡ a → number_of begins y ≡ b → Path (numbered_links ls) (numbered_port x) (numbered_port y)
  forth here x y p q d e = subst (λ z. Path (numbered_links ls) (numbered_port x) (numbered_port z)) (same_port x y p q (d ∙ sym e)) here
  forth (onward {x = a} {y = c} r w) x y p q d e =
      let l = index.links a c r in
      let n = index.numbered l.0 l.1 in
      let s : x ≡ l.0.from = same_port x l.0.from p n.0 (d ∙ sym l.2) in
      onward (subst (λ z. IsLinked (numbered_links ls) (numbered_port z) (numbered_port l.0.to)) (sym s) (in_map numbered_link l.0 ls l.1)) (forth w l.0.to y n.1 q l.3 e)

  back : {p q : Port ℕ} → Path (numbered_links ls) p q → (x y : PortHeld) → p ≡ numbered_port x → q ≡ numbered_port y → Walk (HasStep (led_from words rows)) (number_of begins x) (number_of begins y)
  back here x y d e = let s : x ≡ y = numbered_same x y (sym d ∙ e) in subst (λ z. Walk (HasStep (led_from words rows)) (number_of begins x) (number_of begins z)) s here
  back (onward {x = p} {y = r} l w) x y d e =
      let k = link_from p r ls l in
      let s : x ≡ k.0.from = numbered_same x k.0.from (sym d ∙ k.2) in
      onward (subst (λ z. HasStep (led_from words rows) (number_of begins z) (number_of begins k.0.to)) (sym s) (index.linked k.0 k.1)) (back w k.0.to y k.3 e)

  -- between ports that have numbers
  pub by_numbers : (x y : PortHeld) → IsNumbered begins x → IsNumbered begins y → Walk (HasStep (led_from words rows)) (number_of begins x) (number_of begins y) ↔ Path (numbered_links ls) (numbered_port x) (numbered_port y)
  by_numbers x y p q = (λ w. forth w x y p q refl refl, λ w. back w x y refl refl)

  leaves : {p q : Port ℕ} → Path (numbered_links ls) p q → (p ≡ q) ⊎ ((l : LinkHeld) × IsIn l ls × (p ≡ numbered_port l.from))
  leaves here = inl refl
  leaves (onward {x = p} {y = r} l w) = let k = link_from p r ls l in inr (k.0, k.1, k.2)

  ends : {p q : Port ℕ} → Path (numbered_links ls) p q → (p ≡ q) ⊎ ((l : LinkHeld) × IsIn l ls × (q ≡ numbered_port l.to))
  ends here = inl refl
  ends (onward {x = p} {y = r} l w) =
      let k = link_from p r ls l in
      ⊎_elim (λ (e : ◌≡◌ {A = Port ℕ} r _). inr (k.0, k.1, sym e ∙ k.3)) (λ o. inr o) (ends w)

  -- a port with no number has only the path of itself
  pub none_from : (x y : PortHeld) → (x ≡ y → ⊥) → (IsNumbered begins x → ⊥) → Path (numbered_links ls) (numbered_port x) (numbered_port y) → ⊥
  none_from x y d h w =
      ⊎_elim (λ e. d (numbered_same x y e)) (λ (o : (l : LinkHeld) × IsIn l ls × (numbered_port x ≡ numbered_port l.from)). h (subst (IsNumbered begins) (sym (numbered_same x o.0.from o.2)) (index.numbered o.0 o.1).0)) (leaves w)

  pub none_to : (x y : PortHeld) → (x ≡ y → ⊥) → (IsNumbered begins y → ⊥) → Path (numbered_links ls) (numbered_port x) (numbered_port y) → ⊥
  none_to x y d h w =
      ⊎_elim (λ e. d (numbered_same x y e)) (λ (o : (l : LinkHeld) × IsIn l ls × (numbered_port y ≡ numbered_port l.to)). h (subst (IsNumbered begins) (sym (numbered_same y o.0.to o.2)) (index.numbered o.0 o.1).1)) (ends w)

module _ (names : List (List ℕ)) (ls : List LinkHeld) (differ : AllDiffer names) (within : AreWithin (length names) ls) where
  abbrev rename : Port ℕ → Port (List ℕ)
  rename p = record { owner = get_or names p.owner []; side = p.side; number = p.number }

  named_same : (x y : PortHeld) → x.instance < length names → y.instance < length names → named_port names x ≡ named_port names y → numbered_port x ≡ numbered_port y
  named_same x y h k e =
      let o : get_or names x.instance [] ≡ get_or names y.instance [] = ap (λ (z : Port (List ℕ)). z.owner) e in
      let n : x.instance ≡ y.instance = differ_at (get_or names y.instance []) x.instance y.instance names differ (subst (λ z. IsAt z x.instance names) o (is_at x.instance names [] h)) (is_at y.instance names [] k) in
      (λ t. record { owner = n t; side = (e t).side; number = (e t).number })

  named : (p q : Port ℕ) → IsLinked (numbered_links ls) p q → Path (named_links names ls) (rename p) (rename q)
  named p q h =
      let r = link_from p q ls h in
      walk_one (subst (λ z. IsLinked (named_links names ls) z (rename q)) (sym (ap rename r.2)) (subst (λ z. IsLinked (named_links names ls) (named_port names r.0.from) z) (sym (ap rename r.3)) (in_map (named_link names) r.0 ls r.1)))

  unnamed : {p q : Port (List ℕ)} → Path (named_links names ls) p q → (x y : PortHeld) → x.instance < length names → y.instance < length names → p ≡ named_port names x → q ≡ named_port names y → Path (numbered_links ls) (numbered_port x) (numbered_port y)
  unnamed here x y h k d e = subst (Path (numbered_links ls) (numbered_port x)) (named_same x y h k (sym d ∙ e)) here
  unnamed (onward {x = p} {y = r} l w) x y h k d e =
      let m = in_map_from (named_link names) (record { from = p; to = r }) ls l in
      let b = within m.0 m.1 in
      let f : p ≡ named_port names m.0.from = ap (λ (z : Link (List ℕ)). z.from) m.2 in
      let s : numbered_port x ≡ numbered_port m.0.from = named_same x m.0.from h b.0 (sym d ∙ f) in
      onward (subst (λ z. IsLinked (numbered_links ls) z (numbered_port m.0.to)) (sym s) (in_map numbered_link m.0 ls m.1))
      (unnamed w m.0.to y b.1 k (ap (λ (z : Link (List ℕ)). z.to) m.2) e)

  -- a path between numbered ports is one between named ports
  pub by_names : (x y : PortHeld) → x.instance < length names → y.instance < length names → Path (numbered_links ls) (numbered_port x) (numbered_port y) ↔ Path (named_links names ls) (named_port names x) (named_port names y)
  by_names x y h k = (λ w. walk_through rename named w, λ w. unnamed w x y h k refl refl)
