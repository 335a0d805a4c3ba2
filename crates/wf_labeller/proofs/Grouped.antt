-- The groups of the items of a run, and the bits of the labels in them.
use Rattle.std.proofs.Common.{◌≡◌, ℕ, zero, suc, ◌+◌, ◌-◌, ◌<◌, ◌≤◌, Bool, List, [], ◌∷◌, ◌++◌, map, length, take, get_or, refl, ap, sym, ◌∙◌, subst, inl, inr, ⊎_elim, arith, length-append, append-nil}
use Rattle.std.specs.Prelude.{max}
use Rattle.std.proofs.lemmas.List.{take_all, take_more}
use Rattle.std.proofs.lemmas.List.Concat.{flat_map-append, get_or-flat_map}
use Rattle.wf_model.specs.Lists.{IsIn}
use Rattle.wf_model.proofs.Lists.{in_append_cases, is_at, at_in}
use Rattle.wf_spec.specs.Held.{HeldGrammar}
use Rattle.wf_run.specs.Runs.{RunSeen, Prefix, node_at, GoesOn}
use Rattle.wf_labeller.specs.declared.group.Maker.{Maker}
use Rattle.wf_labeller.specs.declared.group.Maker.TheVariants.{Root, Expansion}
use Rattle.wf_labeller.specs.declared.group.Group.{Group}
use Rattle.wf_labeller.specs.Groups.{longest_of, root_bits, edges_bits, bits_by, all_bits, end_of, AreEnded, IsThere, IsGrouped}

-- the longest of two lists of labels
pub longest-append : (a b : List (List Bool)) → longest_of (a ++ b) ≡ max (longest_of a) (longest_of b)
longest-append [] b = omega arith
longest-append (l ∷ a) b = omega (arith, longest-append a b)

-- a group begins where all those before it end
begins : (r : RunSeen) (from : ℕ) (groups : List Group) → AreEnded r from groups → (i : ℕ) → i ≤ length groups → get_or (from ∷ map end_of groups) i 0 ≡ from + length (all_bits r (take i groups))
begins r from groups h zero k = omega arith
begins r from [] h (suc i) k = absurd (omega (arith, k))
begins r from (m ∷ ms) h (suc i) k =
    omega (arith, begins r m.end ms h.1 i (omega (arith, k)), h.0, length-append (bits_by r m.maker) (all_bits r (take i ms)))

ended_more : (r : RunSeen) (from : ℕ) (groups : List Group) (m : Group) → AreEnded r from groups → m.end ≡ get_or (from ∷ map end_of groups) (length groups) 0 + length (bits_by r m.maker) → AreEnded r from (groups ++ m ∷ [])
ended_more r from [] m h e = (e, tt)
ended_more r from (n ∷ ns) m h e = (h.0, ended_more r n.end ns m h.1 e)

-- the last group ends where all items end
pub all_counted : (r : RunSeen) (groups : List Group) → AreEnded r 0 groups → get_or (0 ∷ map end_of groups) (length groups) 0 ≡ length (all_bits r groups)
all_counted r groups h = omega (arith, begins r 0 groups h (length groups) (omega arith), ap (λ l. length (all_bits r l)) (take_all (length groups) groups (omega arith)))

-- an item that stands in a group
module _ (r : RunSeen) (groups : List Group) (h : AreEnded r 0 groups) (i item : ℕ) (d : Group) (below : i < length groups) (low : get_or (0 ∷ map end_of groups) i 0 ≤ item) (high : item < get_or (map end_of groups) i 0) where
  abbrev before : List (List Bool)
  before = all_bits r (take i groups)

  begun : get_or (0 ∷ map end_of groups) i 0 ≡ length before
  begun = omega (arith, begins r 0 groups h i (omega (arith, below)))

  ends : get_or (map end_of groups) i 0 ≡ length before + length (bits_by r (get_or groups i d).maker)
  ends =
      let more : length (all_bits r (take (suc i) groups)) ≡ length before + length (bits_by r (get_or groups i d).maker) =
      ap (λ n. length (all_bits r (take n groups))) (let w : suc i ≡ i + 1 = omega arith in w) ∙
      (ap (λ l. length (all_bits r l)) (take_more groups i d below) ∙
      (ap (λ (l : List (List Bool)). length l) (flat_map-append (λ (m : Group). bits_by r m.maker) (take i groups) (get_or groups i d ∷ []) ∙ ap (λ l. before ++ l) (append-nil (bits_by r (get_or groups i d).maker))) ∙
      length-append before (bits_by r (get_or groups i d).maker))) in
      omega (arith, begins r 0 groups h (suc i) (omega (arith, below)), more)

  -- its place there
  pub within : item - get_or (0 ∷ map end_of groups) i 0 < length (bits_by r (get_or groups i d).maker)
  within = omega (arith, low, high, begun, ends)

  -- and its label
  pub label_at : get_or (bits_by r (get_or groups i d).maker) (item - get_or (0 ∷ map end_of groups) i 0) [] ≡ get_or (all_bits r groups) item []
  label_at =
      let k = item - get_or (0 ∷ map end_of groups) i 0 in
      sym (get_or-flat_map (λ (m : Group). bits_by r m.maker) groups i k d [] below within) ∙
      ap (λ n. get_or (all_bits r groups) n []) (let w : length before + k ≡ item = omega (arith, low, begun) in w)

  -- what makes it is there
  pub its_maker : (longest : ℕ) → IsGrouped r groups longest → IsThere r (get_or groups i d).maker
  its_maker longest g = g.there (get_or groups i d) (at_in (get_or groups i d) i groups (is_at i groups d below))

-- a run that went on
module _ (r s : RunSeen) (goes : GoesOn r s) where
  same_maker : (m : Maker) → IsThere r m → bits_by s m ≡ bits_by r m
  same_maker Root h = ap (λ (g : HeldGrammar). root_bits g.core) goes.grammar
  same_maker (Expansion p n) h =
      ap (λ (g : HeldGrammar). edges_bits g.core p.0 (node_at s n.0).bits (node_at s n.0).chain) goes.grammar ∙ ap (λ (x : Prefix). edges_bits r.grammar.core p.0 x.bits x.chain) (goes.prefixes n.0 h.0)

  still_there : (m : Maker) → IsThere r m → IsThere s m
  still_there Root h = tt
  still_there (Expansion p n) h = (omega (arith, h.0, goes.count), subst (λ (g : HeldGrammar). p.0 < length g.core.productions) (sym goes.grammar) h.1)

  -- its labels are those that they were
  pub same_bits : (groups : List Group) → ((m : Group) → IsIn m groups → IsThere r m.maker) → all_bits s groups ≡ all_bits r groups
  same_bits [] h = refl
  same_bits (m ∷ ms) h =
      ap (λ l. l ++ all_bits s ms) (same_maker m.maker (h m (inl refl))) ∙ ap (λ l. bits_by r m.maker ++ l) (same_bits ms (λ n i. h n (inr i)))

  same_ends : (from : ℕ) (groups : List Group) → ((m : Group) → IsIn m groups → IsThere r m.maker) → AreEnded r from groups → AreEnded s from groups
  same_ends from [] h e = tt
  same_ends from (m ∷ ms) h e =
      (e.0 ∙ ap (λ l. from + length l) (sym (same_maker m.maker (h m (inl refl)))), same_ends m.end ms (λ n i. h n (inr i)) e.1)

  pub still_grouped : (groups : List Group) (longest : ℕ) → IsGrouped r groups longest → IsGrouped s groups longest
  still_grouped groups longest g = record {
    there = λ m i. still_there m.maker (g.there m i);
    ended = same_ends 0 groups g.there g.ended;
    longest_is = g.longest_is ∙ ap longest_of (sym (same_bits groups g.there));
  }

  -- with a group more
  module _ (groups new : List Group) (longest : ℕ) (g : IsGrouped r groups longest) (m : Group) (push : new ≡ groups ++ m ∷ []) (there : IsThere r m.maker) where
    each_there : (n : Group) → IsIn n (groups ++ m ∷ []) → IsThere r n.maker
    each_there n i = ⊎_elim (λ h. g.there n h) (λ t. ⊎_elim (λ e. subst (λ (z : Group). IsThere r z.maker) (sym e) there) (λ z. absurd z) t) (in_append_cases n groups (m ∷ []) i)

    more_bits : all_bits r (groups ++ m ∷ []) ≡ all_bits r groups ++ bits_by r m.maker
    more_bits = flat_map-append (λ (z : Group). bits_by r z.maker) groups (m ∷ []) ∙ ap (λ l. all_bits r groups ++ l) (append-nil (bits_by r m.maker))

    pub added_bits : all_bits s new ≡ all_bits r groups ++ bits_by r m.maker
    added_bits = ap (all_bits s) push ∙ (same_bits (groups ++ m ∷ []) each_there ∙ more_bits)

    pub added_group : (count : ℕ) → m.end ≡ get_or (0 ∷ map end_of groups) (length groups) 0 + count → count ≡ length (bits_by r m.maker) → (now : ℕ) → now ≡ max longest (longest_of (bits_by r m.maker)) → IsGrouped s new now
    added_group count e is now n =
        subst (λ l. IsGrouped s l now) (sym push)
        (record {
          there = λ z i. still_there z.maker (each_there z i);
          ended = same_ends 0 (groups ++ m ∷ []) each_there (ended_more r 0 groups m g.ended (e ∙ ap (λ k. get_or (0 ∷ map end_of groups) (length groups) 0 + k) is));
          longest_is =
              n ∙ (ap (λ k. max k (longest_of (bits_by r m.maker))) g.longest_is ∙
              (sym (longest-append (all_bits r groups) (bits_by r m.maker)) ∙ ap longest_of (sym (same_bits (groups ++ m ∷ []) each_there ∙ more_bits))));
        })
