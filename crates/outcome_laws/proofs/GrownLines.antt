-- The lines of a file, and of one that goes on from it.
use Rattle.std.proofs.Common.{◌≡◌, ◌≤◌, ◌-◌, ◌+◌, ℕ, suc, Bool, true, false, cond, ◌==◌, nat_lt, List, [], ◌∷◌, ◌++◌, length, take, refl, sym, ap, ◌∙◌, subst, inl, inr, arith, length-append, append-nil, true≢false}
use Rattle.std.specs.Prelude.{◌||◌, ◌&&◌}
use Rattle.std.proofs.Math.Seq.{take-append-add}
use Rattle.std.proofs.lemmas.Bool.{lt-ltb, ltb-true, ltb-false}
use Rattle.std.proofs.lemmas.List.{take_all, take-append-le}
use Rattle.wf_io.specs.declared.limits.TheConstants.{LINE_MOST}
use Rattle.wf_io.specs.Told.{File}
use Rattle.wf_io.specs.Lines.{Line, put_first, parts_of, is_too_long, is_given, with_line, lines_from, tail_of, text_of, is_at_end, last_number, lines_within, lines_in}
use Rattle.wf_io.proofs.Cutting.{some_part}
use Rattle.wf_lines.proofs.Growing.{GoOnFrom}
use Rattle.outcome_laws.specs.Laws.{EndWithALine, IsSealed}

-- the parts of bytes, and of more bytes behind them, of which the last part goes on
record PartsGrow (bytes more : List ℕ) : Type 0 where
  parts : List (List ℕ)
  last : List ℕ
  rest : List ℕ
  others : List (List ℕ)
  first : parts_of bytes ≡ parts ++ last ∷ []
  all : parts_of (bytes ++ more) ≡ parts ++ (last ++ rest) ∷ others

-- one byte more in the first part
byte_first : (b : ℕ) (bytes more : List ℕ) (parts : List (List ℕ)) (last rest : List ℕ) (others : List (List ℕ)) → parts_of bytes ≡ parts ++ last ∷ [] → parts_of (bytes ++ more) ≡ parts ++ (last ++ rest) ∷ others →
    (ps : List (List ℕ)) × (p : List ℕ) × (put_first b (parts_of bytes) ≡ ps ++ p ∷ []) × (put_first b (parts_of (bytes ++ more)) ≡ ps ++ (p ++ rest) ∷ others)
byte_first b bytes more [] last rest others p q = ([], b ∷ last, ap (put_first b) p, ap (put_first b) q)
byte_first b bytes more (part ∷ parts) last rest others p q = ((b ∷ part) ∷ parts, last, ap (put_first b) p, ap (put_first b) q)

parts_grow : (bytes more : List ℕ) → PartsGrow bytes more
parts_grow [] more = let s = some_part more in record { parts = []; last = []; rest = s.0; others = s.1; first = refl; all = s.2 }
parts_grow (b ∷ bytes) more = go (b == 10) refl (parts_grow bytes more)
  where
    go : (t : Bool) → b == 10 ≡ t → PartsGrow bytes more → PartsGrow (b ∷ bytes) more
    go true is r = record {
      parts = [] ∷ r.parts;
      last = r.last;
      rest = r.rest;
      others = r.others;
      first = ap (λ t. cond t ([] ∷ parts_of bytes) (put_first b (parts_of bytes))) is ∙ ap (λ ps. [] ∷ ps) r.first;
      all = ap (λ t. cond t ([] ∷ parts_of (bytes ++ more)) (put_first b (parts_of (bytes ++ more)))) is ∙ ap (λ ps. [] ∷ ps) r.all;
    }
    go false is r =
        let s = byte_first b bytes more r.parts r.last r.rest r.others r.first r.all in
        record {
          parts = s.0;
          last = s.1;
          rest = r.rest;
          others = r.others;
          first = ap (λ t. cond t ([] ∷ parts_of bytes) (put_first b (parts_of bytes))) is ∙ s.2;
          all = ap (λ t. cond t ([] ∷ parts_of (bytes ++ more)) (put_first b (parts_of (bytes ++ more)))) is ∙ s.3;
        }

-- lines with one more before them go on from others with the same before them
one_before : (given : Bool) (k : ℕ) (raw : List ℕ) (ls ms : List Line) → GoOnFrom ls ms → GoOnFrom (with_line given k raw ls) (with_line given k raw ms)
one_before true k raw ls ms on = inl (refl, on)
one_before false k raw ls ms on = on

-- what is too long stays so with more bytes behind it
stays_long : (raw more : List ℕ) → is_too_long raw ≡ true → is_too_long (raw ++ more) ≡ true
stays_long raw more long = let n = length-append raw more in let l = ltb-true LINE_MOST (length raw) long in lt-ltb LINE_MOST (length (raw ++ more)) (omega arith)

-- the line of a last part that no newline ends is too long, and so it is where the part goes on
last_grows : (ended : Bool) (k : ℕ) (last rest : List ℕ) (others : List (List ℕ)) → GoOnFrom (lines_from false k (last ∷ [])) (lines_from ended k ((last ++ rest) ∷ others))
last_grows ended k last rest others = go (is_too_long last) refl
  where
    longer : (ps : List (List ℕ)) → is_too_long last ≡ true → is_too_long (last ++ rest) ≡ true → GoOnFrom (record { number = k; raw = last } ∷ []) (lines_from ended k ((last ++ rest) ∷ ps))
    longer [] long more = subst (λ t. GoOnFrom (record { number = k; raw = last } ∷ []) (with_line (t || (ended && is_given (last ++ rest))) k (last ++ rest) [])) (sym more) (inr (long, more, refl))
    longer (p ∷ ps) long more = subst (λ t. GoOnFrom (record { number = k; raw = last } ∷ []) (with_line (t || nat_lt 0 (length (text_of (last ++ rest)))) k (last ++ rest) (lines_from ended (suc k) (p ∷ ps)))) (sym more) (inr (long, more, refl))

    go : (t : Bool) → is_too_long last ≡ t → GoOnFrom (lines_from false k (last ∷ [])) (lines_from ended k ((last ++ rest) ∷ others))
    go true is = subst (λ t. GoOnFrom (with_line (t || false) k last []) (lines_from ended k ((last ++ rest) ∷ others))) (sym is) (longer others is (stays_long last rest is))
    go false is = subst (λ t. GoOnFrom (with_line (t || false) k last []) (lines_from ended k ((last ++ rest) ∷ others))) (sym is) tt

-- the lines of parts, of which the last goes on
lines_of_parts : (ended : Bool) (k : ℕ) (parts : List (List ℕ)) (last rest : List ℕ) (others : List (List ℕ)) → GoOnFrom (lines_from false k (parts ++ last ∷ [])) (lines_from ended k (parts ++ (last ++ rest) ∷ others))
lines_of_parts ended k [] last rest others = last_grows ended k last rest others
lines_of_parts ended k (p ∷ []) last rest others = one_before (is_given p) k p _ _ (last_grows ended (suc k) last rest others)
lines_of_parts ended k (p ∷ next ∷ parts) last rest others = one_before (is_given p) k p _ _ (lines_of_parts ended (suc k) (next ∷ parts) last rest others)

lines_of_bytes : (ended : Bool) (k : ℕ) (bytes more : List ℕ) → GoOnFrom (lines_from false k (parts_of bytes)) (lines_from ended k (parts_of (bytes ++ more)))
lines_of_bytes ended k bytes more =
    let r = parts_grow bytes more in
    subst (λ ps. GoOnFrom (lines_from false k ps) (lines_from ended k (parts_of (bytes ++ more)))) (sym r.first)
    (subst (λ ps. GoOnFrom (lines_from false k (r.parts ++ r.last ∷ [])) (lines_from ended k ps)) (sym r.all) (lines_of_parts ended k r.parts r.last r.rest r.others))

-- where the last byte is a newline, the last part is empty
closed_parts : (front : List ℕ) → (p : List ℕ) × (ps : List (List ℕ)) × (parts_of (front ++ 10 ∷ []) ≡ p ∷ ps ++ [] ∷ [])
closed_parts [] = ([], [], refl)
closed_parts (b ∷ front) = go (b == 10) refl (closed_parts front)
  where
    go : (t : Bool) → b == 10 ≡ t → (p : List ℕ) × (ps : List (List ℕ)) × (parts_of (front ++ 10 ∷ []) ≡ p ∷ ps ++ [] ∷ []) → (p : List ℕ) × (ps : List (List ℕ)) × (parts_of ((b ∷ front) ++ 10 ∷ []) ≡ p ∷ ps ++ [] ∷ [])
    go true is r = ([], r.0 ∷ r.1, ap (λ t. cond t ([] ∷ parts_of (front ++ 10 ∷ [])) (put_first b (parts_of (front ++ 10 ∷ [])))) is ∙ ap (λ ps. [] ∷ ps) r.2)
    go false is r = (b ∷ r.0, r.1, ap (λ t. cond t ([] ∷ parts_of (front ++ 10 ∷ [])) (put_first b (parts_of (front ++ 10 ∷ [])))) is ∙ ap (put_first b) r.2)

-- and the lines are the same whether the file ends behind them or not
closed_lines : (k : ℕ) (p : List ℕ) (ps : List (List ℕ)) → lines_from true k (p ∷ ps ++ [] ∷ []) ≡ lines_from false k (p ∷ ps ++ [] ∷ [])
closed_lines k p [] = refl
closed_lines k p (next ∷ ps) = ap (with_line (is_given p) k p) (closed_lines (suc k) next ps)

closed_bytes : (k : ℕ) (bytes : List ℕ) → EndWithALine bytes → lines_from true k (parts_of bytes) ≡ lines_from false k (parts_of bytes)
closed_bytes k bytes (inl e) = subst (λ b. lines_from true k (parts_of b) ≡ lines_from false k (parts_of b)) (sym e) refl
closed_bytes k bytes (inr e) =
    let r = closed_parts e.0 in
    subst (λ b. lines_from true k (parts_of b) ≡ lines_from false k (parts_of b)) (sym e.1) (subst (λ ps. lines_from true k ps ≡ lines_from false k ps) (sym r.2) (closed_lines k r.0 r.1))

-- the first bytes of a file that goes on begin with the first bytes of the other
first_bytes : (most : ℕ) (bytes more : List ℕ) → (rest : List ℕ) × (take most (bytes ++ more) ≡ take most bytes ++ rest)
first_bytes most bytes more = go (nat_lt most (length bytes)) refl
  where
    go : (t : Bool) → nat_lt most (length bytes) ≡ t → (rest : List ℕ) × (take most (bytes ++ more) ≡ take most bytes ++ rest)
    go true is = ([], take-append-le most bytes more (let l = ltb-true most (length bytes) is in omega arith) ∙ sym (append-nil (take most bytes)))
    go false is =
        let l : length bytes ≤ most = ltb-false most (length bytes) is in
        let sum : length bytes + (most - length bytes) ≡ most = omega arith in
        (take (most - length bytes) more, ap (λ n. take n (bytes ++ more)) (sym sum) ∙ (take-append-add bytes more (most - length bytes) ∙ ap (λ b. b ++ take (most - length bytes) more) (sym (take_all most bytes l))))

-- a file at whose end no line is open has the lines that its parts have with no end behind them
sealed_lines : (most k : ℕ) (file : File) → IsSealed file → (lines_within most k file).lines ≡ lines_from false k (parts_of (take most file.bytes))
sealed_lines most k file sealed =
    go (nat_lt most (length file.bytes)) file.broken refl refl sealed
  where
    parts : List (List ℕ)
    parts = parts_of (take most file.bytes)

    number : ℕ
    number = last_number k parts

    go : (long broken : Bool) → nat_lt most (length file.bytes) ≡ long → file.broken ≡ broken → IsSealed file → lines_from (is_at_end (tail_of long broken number)) k parts ≡ lines_from false k parts
    go true broken is same how = refl
    go false true is same how = refl
    go false false is same (inl breaks) = absurd (true≢false (sym breaks ∙ same))
    go false false is same (inr ends) = subst (λ b. lines_from true k (parts_of b) ≡ lines_from false k (parts_of b)) (sym (take_all most file.bytes (ltb-false most (length file.bytes) is))) (closed_bytes k file.bytes ends)

-- then the lines of each file with more bytes go on from its lines
pub lines_go_on : (file later : File) (more : List ℕ) → IsSealed file → later.bytes ≡ file.bytes ++ more → GoOnFrom (lines_in file).lines (lines_in later).lines
lines_go_on file later more sealed longer = go 1073741824
  where
    go : (most : ℕ) → GoOnFrom (lines_within most 1 file).lines (lines_within most 1 later).lines
    go most =
        let r = first_bytes most file.bytes more in
        let t = tail_of (nat_lt most (length later.bytes)) later.broken (last_number 1 (parts_of (take most later.bytes))) in
        subst (λ ls. GoOnFrom ls (lines_within most 1 later).lines) (sym (sealed_lines most 1 file sealed))
        (subst (λ b. GoOnFrom (lines_from false 1 (parts_of (take most file.bytes))) (lines_from (is_at_end t) 1 (parts_of b))) (sym (ap (take most) longer ∙ r.1))
        (lines_of_bytes (is_at_end t) 1 (take most file.bytes) r.0))
