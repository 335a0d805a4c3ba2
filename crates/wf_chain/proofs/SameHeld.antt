-- Held items that are one item of a run are one held item.
use Rattle.std.proofs.Common.{◌≡◌, ℕ, ◌<◌, List, [], length, get_or, Option, Some, None, refl, sym, ap, subst}
use Rattle.std.specs.Prelude.{option_map, IfSome}
use Rattle.std.proofs.lemmas.Option.{same_Some}
use Rattle.std.proofs.lemmas.List.{length-map}
use Rattle.wf_model.specs.Grammar.{Grammar}
use Rattle.wf_model.specs.Links.{Port}
use Rattle.wf_model.specs.Items.{Item}
use Rattle.wf_model.proofs.Lists.{is_at, differ_at}
use Rattle.wf_flat.specs.declared.graph.Port.{Port as PortHeld}
use Rattle.wf_flat.specs.declared.item.Item.{Item as ItemHeld}
use Rattle.wf_flat.specs.declared.table.Inst.{Inst}
use Rattle.wf_flat.specs.Table.{Table, IsTableOf, names_in}
use Rattle.wf_flat.specs.Graph.{named_port}
use Rattle.wf_flat.specs.Item.{IsItemWithin}
use Rattle.wf_flat.proofs.SeenNumbers.{all_differ}
use Rattle.wf_chain.specs.HeldItems.{item_of}

-- values that a map makes equal are equal, where it makes none equal that differ
same_option : {A B : Type 0} (f : A → B) (P : A → Type 0) → ((x y : A) → P x → P y → f x ≡ f y → x ≡ y) → (a b : Option A) → IfSome a P → IfSome b P → option_map f a ≡ option_map f b → a ≡ b
same_option f P one None None p q e = refl
same_option f P one None (Some y) p q e = absurd (cc)
same_option f P one (Some x) None p q e = absurd (cc)
same_option f P one (Some x) (Some y) p q e = ap Some (one x y p q (same_Some (f x) (f y) e))

module _ (g : Grammar) (t : Table) (run : IsTableOf g t) where
  abbrev names : List (List ℕ)
  names = names_in t.instances

  one_number : (j k : ℕ) → j < length t.instances → k < length t.instances → get_or names j [] ≡ get_or names k [] → j ≡ k
  one_number j k h l e =
      let count = length-map t.instances (λ (x : Inst). x.name) in
      differ_at (get_or names k []) j k names (all_differ g t run)
      (subst (λ n. Rattle.wf_model.specs.Lists.IsAt n j names) e (is_at j names [] (subst (λ n. j < n) (sym count) h)))
      (is_at k names [] (subst (λ n. k < n) (sym count) l))

  one_port : (p q : PortHeld) → p.instance < length t.instances → q.instance < length t.instances → named_port names p ≡ named_port names q → p ≡ q
  one_port p q h l e =
      let instance = one_number p.instance q.instance h l (ap (λ (z : Port (List ℕ)). z.owner) e) in
      λ z. record { instance = instance z; side = (e z).side; port = record { 0 = (e z).number } }

  pub same_held : (i j : ItemHeld) → IsItemWithin (length t.instances) i → IsItemWithin (length t.instances) j → item_of g t i ≡ item_of g t j → i ≡ j
  same_held i j h l e =
      let maker = same_option (λ k. get_or names k []) (λ k. k < length t.instances) one_number i.maker j.maker h.maker l.maker (ap (λ (z : Item). z.maker) e) in
      let from = same_option (named_port names) (λ (p : PortHeld). p.instance < length t.instances) one_port i.from j.from h.from l.from (ap (λ (z : Item). z.produced) e) in
      let to = same_option (named_port names) (λ (p : PortHeld). p.instance < length t.instances) one_port i.to j.to h.to l.to (ap (λ (z : Item). z.consumed) e) in
      λ z. record { maker = maker z; from = from z; to = to z }
