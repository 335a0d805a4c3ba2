-- Groups of the first keys, as their pool grows.
use Rattle.std.proofs.Common.{◌≡◌, ℕ, ◌+◌, ◌-◌, ◌<◌, ◌≤◌, ◌↔◌, IsTrue, List, [], ◌∷◌, ◌++◌, length, get_or, slice_index_or, Option, Some, None, option_map, refl, sym, ap, ◌∙◌, subst, inl, inr, arith, length-append}
use Rattle.std.proofs.lemmas.List.{map-append, get_or_append_left, get_or-map, get_or_read}
use Rattle.std.proofs.Math.Dec.{leb}
use Rattle.std.proofs.Math.Seq.{get_or-append_seam}
use Rattle.std.proofs.lemmas.Bool.{cases_eq, le-leb, leb-true}
use Rattle.bool_mat.specs.Matrix.{Matrix, Adds, matrix_at}
use Rattle.bool_mat.specs.declared.pool.MatNo.{MatNo}
use Rattle.bool_mat.proofs.Pools.{adds_none}
use Rattle.wf_vlabel.specs.Groups.{GroupsSeen, HasGroup}
use Rattle.wf_vlabel.specs.Growing.{Grows, AreGroupsOf}
use Rattle.wf_vlabel.specs.RoundSteps.{numbers_in}

pub grows_not : (pool : List Matrix) → Grows pool pool
grows_not pool = (0, adds_none pool)

pub grows_by : (old new : List Matrix) (n count : ℕ) → Adds old new n count → Grows old new
grows_by old new n count a = (count, subst (λ k. Adds old new k count) a.number a)

pub room_kept : (old new : List Matrix) → Grows old new → length old ≤ length new
room_kept old new w = let t = w.1.total in omega arith

pub matrix_kept : (old new : List Matrix) (k : ℕ) → Grows old new → k < length old → matrix_at new k ≡ matrix_at old k
matrix_kept old new k w h = w.1.kept k h

-- what holds of a group stays so in a pool that grows
abbrev pub Stays : (ℕ → List Matrix → Option ℕ → Type 0) → Type 0
Stays P = (key : ℕ) (old new : List Matrix) (n : Option ℕ) → Grows old new → P key old n → P key new n

pub groups_none : (P : ℕ → List Matrix → Option ℕ → Type 0) (pool : List Matrix) → AreGroupsOf P 0 pool []
groups_none P pool = record { one_each = refl; each = λ key h. absurd (omega arith) }

groups_more : (P : ℕ → List Matrix → Option ℕ → Type 0) (count : ℕ) (old new : List Matrix) (first : List (Option ℕ)) (n : Option ℕ) → Stays P → AreGroupsOf P count old first → Grows old new → P count new n → AreGroupsOf P (count + 1) new (first ++ n ∷ [])
groups_more P count old new first n stays h grows last =
    let l = h.one_each in
    let a = length-append first (n ∷ []) in
    record {
      one_each = omega arith;
      each = λ key b. elim (cases_eq key count) [
        | inl e ↦ subst (λ k. P k new (get_or (first ++ n ∷ []) k None)) (sym e)
            (subst (λ k. P count new (get_or (first ++ n ∷ []) k None)) l (subst (P count new) (sym (get_or-append_seam first n [] None)) last))
        | inr e ↦ let there : key < count = omega arith in
            let there' : key < length first = omega arith in
            subst (P key new) (sym (get_or_append_left first (n ∷ []) None key there')) (stays key old new (get_or first key None) grows (h.each key there))
      ];
    }

-- one group more
pub groups_push : (P : ℕ → List Matrix → Option ℕ → Type 0) (count : ℕ) (old new : List Matrix) (first longer : List (Option MatNo)) (n : Option MatNo) → Stays P → AreGroupsOf P count old (numbers_in first) → Grows old new → P count new (option_map (λ (k : MatNo). k.0) n) → longer ≡ first ++ n ∷ [] →
    AreGroupsOf P (count + 1) new (numbers_in longer)
groups_push P count old new first longer n stays h grows last e =
    subst (AreGroupsOf P (count + 1) new) (sym (ap numbers_in e ∙ map-append (option_map (λ (k : MatNo). k.0)) first (n ∷ [])))
    (groups_more P count old new (numbers_in first) (option_map (λ (k : MatNo). k.0) n) stays h grows last)

-- the groups of all keys, as the table of them has them
pub groups_end : (P : ℕ → List Matrix → Option ℕ → Type 0) (n last count : ℕ) (pool : List Matrix) (first : List (Option ℕ)) (t : GroupsSeen) → n ≤ last → last ≤ n → last ≡ count → t.pool ≡ pool → t.first ≡ first → AreGroupsOf P n pool first → AreGroupsOf P count t.pool t.first
groups_end P n last count pool first t l m c e f groups =
    let same : n ≡ count = omega arith in
    subst (λ k. AreGroupsOf P k t.pool t.first) same (subst (λ (ms : List Matrix). AreGroupsOf P n ms t.first) (sym e) (subst (AreGroupsOf P n pool) (sym f) groups))

abbrev number_by : Option ℕ → ℕ
number_by None = 0
number_by (Some n) = n

-- whether the group of a key has so many matrices, from the number of its first
pub group_told : (t : GroupsSeen) (first : List (Option MatNo)) (key count many : ℕ) (n : MatNo) (read : Option MatNo) → t.first ≡ numbers_in first → many ≡ length t.pool → key < length first →
    read ≡ slice_index_or first key read → read ≡ Some n → n.0 ≤ many → IsTrue (leb count (many - n.0)) ↔ HasGroup t key count
group_told t first key count many n read e pool low at is few =
    let there : get_or t.first key None ≡ Some n.0 =
    ap (λ f. get_or f key None) e ∙ (get_or-map (option_map (λ (k : MatNo). k.0)) first key None None low ∙ ap (option_map (λ (k : MatNo). k.0)) (sym (get_or_read first key read low at None) ∙ is)) in (
      (λ h. let l = leb-true count (many - n.0) h in record { number = n.0; has = there; inside = omega arith }),
      λ h. let same : h.number ≡ n.0 = ap number_by (sym h.has ∙ there) in let l = h.inside in le-leb count (many - n.0) (omega arith),
    )
