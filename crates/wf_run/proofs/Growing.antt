-- Nodes that are appended, one after another.
use Rattle.std.proofs.Common.{◌≡◌, ℕ, suc, ◌+◌, ◌∙◌, List, [], ◌∷◌, ◌++◌, map, length, take, refl, sym, ap, subst, ⊎_elim, arith, append_assoc, append-nil}
use Rattle.std.proofs.lemmas.List.{map-append, take_at}
use Rattle.wf_model.specs.Lists.{numbers_from}
use Rattle.wf_model.specs.Grammar.{Grammar}
use Rattle.wf_model.proofs.Lists.{in_append_cases}
use Rattle.wf_model.proofs.NumberLists.{numbers_from-last}
use Rattle.bit_pack.specs.Written.{IsWhole}
use Rattle.wf_run.specs.declared.node.Node.{Node as NodeHeld}
use Rattle.wf_run.specs.Runs.{Prefix}
use Rattle.wf_run.specs.Nodes.{node_of}
use Rattle.wf_run.specs.Opening.{child_node}
use Rattle.wf_run.specs.Growing.{AddsChildren}

-- one number more
pub numbers_more : (k n : ℕ) → numbers_from k (n + 1) ≡ numbers_from k n ++ (k + n) ∷ []
numbers_more k n = (let e : n + 1 ≡ suc n = omega arith in ap (numbers_from k) e) ∙ numbers_from-last k n

-- what a function tells of the first numbers, and of one more
pub map_more : {A B : Type 0} (f : A → B) (h : ℕ → B) (xs : List A) (x : A) (n : ℕ) → map f xs ≡ map h (numbers_from 0 n) → f x ≡ h n → map f (xs ++ x ∷ []) ≡ map h (numbers_from 0 (n + 1))
map_more f h xs x n e d =
    let z : 0 + n ≡ n = omega arith in
    map-append f xs (x ∷ []) ∙ (ap (λ l. l ++ f x ∷ []) e ∙ (ap (λ y. map h (numbers_from 0 n) ++ y ∷ []) (d ∙ ap h (sym z)) ∙
    (sym (map-append h (numbers_from 0 n) ((0 + n) ∷ [])) ∙ ap (map h) (sym (numbers_more 0 n)))))

pub adds_none : (g : Grammar) (p : ℕ) (parent : Prefix) (old : List NodeHeld) → AddsChildren g p parent 0 old old
adds_none g p parent old = record { more = []; is = sym (append-nil old); nodes = refl; whole = λ n i. absurd i }

pub adds_one : (g : Grammar) (p : ℕ) (parent : Prefix) (j : ℕ) (old mid new : List NodeHeld) (n : NodeHeld) →
    AddsChildren g p parent j old mid → node_of n ≡ child_node g p parent j → IsWhole n.bytes.now n.length → new ≡ mid ++ n ∷ [] → AddsChildren g p parent (j + 1) old new
adds_one g p parent j old mid new n a e w is = record {
  more = a.more ++ n ∷ [];
  is = is ∙ (ap (λ l. l ++ n ∷ []) a.is ∙ append_assoc old a.more (n ∷ []));
  nodes = map_more node_of (child_node g p parent) a.more n j a.nodes e;
  whole = λ k i. ⊎_elim (a.whole k) (λ o. ⊎_elim (λ (d : k ≡ n). subst (λ (m : NodeHeld). IsWhole m.bytes.now m.length) (sym d) w) (λ z. absurd z) o) (in_append_cases k a.more (n ∷ []) i);
}

pub adds_begins : (g : Grammar) (p : ℕ) (parent : Prefix) (j : ℕ) (old new : List NodeHeld) → AddsChildren g p parent j old new → take (length old) new ≡ old
adds_begins g p parent j old new a = ap (take (length old)) a.is ∙ take_at old a.more (length old) refl
