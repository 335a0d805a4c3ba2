-- Rows of text, each of which a newline ends, as the lines of a file.
use Rattle.std.proofs.Common.{◌≡◌, ℕ, suc, ◌<◌, ◌≤◌, ◌-◌, Bool, true, false, cond, nat_lt, List, [], ◌∷◌, ◌++◌, flat_map, length, take, get_or, refl, ap, ◌∙◌, subst, inl, inr, arith, append_assoc}
use Rattle.std.specs.Prelude.{◌||◌}
use Rattle.std.proofs.lemmas.Bool.{ne_eqb, lt-ltb, le-ltb}
use Rattle.std.proofs.lemmas.List.{take_all}
use Rattle.wf_model.specs.Lists.{IsIn}
use Rattle.wf_model.proofs.Lists.{is_at, at_in}
use Rattle.wf_io.specs.declared.limits.TheConstants.{LINE_MOST}
use Rattle.wf_io.specs.Told.{File}
use Rattle.wf_io.specs.Lines.{Line, FileLines, AtEnd, parts_of, text_of, is_too_long, is_given, with_line, lines_from, last_number, tail_of, lines_before, lines_within, lines_in}
use Rattle.wf_io.proofs.Cutting.{Lacks, cut_at}

-- a row has a byte, is not too long for a line, and has neither a newline nor a carriage return
pub record IsRow (row : List ℕ) : Type 0 where
  pub some : 0 < length row
  pub few : length row ≤ 65536
  pub no_newline : IsIn 10 row → ⊥
  pub no_return : IsIn 13 row → ⊥

-- the bytes of rows
abbrev pub rows_text : List (List ℕ) → List ℕ
rows_text rows = flat_map (λ row. row ++ 10 ∷ []) rows

-- the lines of rows, numbered from a number on
abbrev pub numbered_rows : ℕ → List (List ℕ) → List Line
numbered_rows k [] = []
numbered_rows k (row ∷ rows) = record { number = k; raw = row } ∷ numbered_rows (suc k) rows

abbrev pub AreRows : List (List ℕ) → Type 0
AreRows rows = (row : List ℕ) → IsIn row rows → IsRow row

row_lacks : (row : List ℕ) → IsRow row → Lacks row
row_lacks row h k below = ne_eqb (get_or row k 0) 10 (λ e. h.no_newline (subst (λ b. IsIn b row) e (at_in (get_or row k 0) k row (is_at k row 0 below))))

-- nothing is dropped of a row
pub row_text : (row : List ℕ) → IsRow row → text_of row ≡ row
row_text row h =
    let some = h.some in
    let below : length row - 1 < length row = omega arith in
    let last = at_in (get_or row (length row - 1) 0) (length row - 1) row (is_at (length row - 1) row 0 below) in
    ap (λ (b : Bool). cond b (take (length row - 1) row) row) (ne_eqb (get_or row (length row - 1) 0) 13 (λ e. h.no_return (subst (λ b. IsIn b row) e last)))

pub row_short : (row : List ℕ) → IsRow row → is_too_long row ≡ false
row_short row h = le-ltb LINE_MOST (length row) h.few

row_given : (row : List ℕ) → IsRow row → is_given row ≡ true
row_given row h = ap (λ b. b || nat_lt 0 (length (text_of row))) (row_short row h) ∙ (ap (λ t. nat_lt 0 (length t)) (row_text row h) ∙ lt-ltb 0 (length row) h.some)

-- the parts of rows, and an empty one behind them
rows_parts : (rows : List (List ℕ)) → AreRows rows → parts_of (rows_text rows) ≡ rows ++ [] ∷ []
rows_parts [] h = refl
rows_parts (row ∷ rows) h =
    ap parts_of (append_assoc row (10 ∷ []) (rows_text rows)) ∙ (cut_at row (rows_text rows) (row_lacks row (h row (inl refl))) ∙ ap (λ (ps : List (List ℕ)). row ∷ ps) (rows_parts rows (λ r i. h r (inr i))))

rows_lines : (k : ℕ) (rows : List (List ℕ)) → AreRows rows → lines_from true k (rows ++ [] ∷ []) ≡ numbered_rows k rows
rows_lines k [] h = refl
rows_lines k (row ∷ []) h = ap (λ b. with_line b k row []) (row_given row (h row (inl refl)))
rows_lines k (row ∷ next ∷ rows) h =
    ap (λ b. with_line b k row (lines_from true (suc k) ((next ∷ rows) ++ [] ∷ []))) (row_given row (h row (inl refl))) ∙
    ap (λ (ls : List Line). record { number = k; raw = row } ∷ ls) (rows_lines (suc k) (next ∷ rows) (λ r i. h r (inr i)))

-- a whole file of rows, which is not too long, has their lines
pub rows_in : (file : File) (rows : List (List ℕ)) → AreRows rows → file.broken ≡ false → file.bytes ≡ rows_text rows → length file.bytes ≤ 1073741824 → lines_in file ≡ record { lines = numbered_rows 1 rows; tail = AtEnd }
rows_in file rows h whole bytes short = go 1073741824 short
  where
    with_end : List Line → FileLines
    with_end ls = record { lines = ls; tail = AtEnd }

    go : (most : ℕ) → length file.bytes ≤ most → lines_within most 1 file ≡ record { lines = numbered_rows 1 rows; tail = AtEnd }
    go most w =
        let cut : parts_of (take most file.bytes) ≡ rows ++ [] ∷ [] = ap parts_of (take_all most file.bytes w ∙ bytes) ∙ rows_parts rows h in
        ap (λ b. lines_before (tail_of b file.broken (last_number 1 (parts_of (take most file.bytes)))) 1 (parts_of (take most file.bytes))) (le-ltb most (length file.bytes) w) ∙
        (ap (λ b. lines_before (tail_of false b (last_number 1 (parts_of (take most file.bytes)))) 1 (parts_of (take most file.bytes))) whole ∙
        (ap (lines_before AtEnd 1) cut ∙ ap with_end (rows_lines 1 rows h)))
