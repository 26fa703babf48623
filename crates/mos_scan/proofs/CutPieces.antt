-- What the code cuts are the pieces, and there are no others.

use Rattle.std.proofs.Common.{◌≡◌, ℕ, ◌+◌, nat_lt, nat_eq, Bool, ◌||◌, true, false, List, [], ◌∷◌, ◌++◌, length, Result, Ok, Err, IfOk, refl, sym, ◌∙◌, ap, subst, arith, append_assoc, length-append}
use Rattle.std.proofs.lemmas.Bool.{or_left, or_right, or_parts, lt-ltb, ne_eqb}
use Rattle.std.proofs.lemmas.List.{append-nil}
use Rattle.std.proofs.lemmas.List.Sums.{fold-append}
use Rattle.mos_scan.specs.declared.token.TokenKind.{TokenKind}
use Rattle.mos_scan.specs.declared.token.TokenKind.TheVariants.{Newline}
use Rattle.mos_scan.specs.declared.token.Token.{Token}
use Rattle.mos_scan.specs.declared.context.Context.{Context}
use Rattle.mos_scan.specs.declared.piece.Piece.{Piece}
use Rattle.mos_scan.specs.declared.piece.OpenPiece.{OpenPiece}
use Rattle.mos_scan.specs.Pieces.{last_kind, first_kind, second_kind, first_line, depth, depth_behind, declarations_after, parameters_after, initializations_after, in_declarations, in_parameters, in_initializations, separates, begins_piece, ends_piece, is_cut, IsUncut, one_token, one_more, IsEnded, piece_of, ArePiecesBehind, no_token, separator, whole_piece, ArePieces}
use Rattle.mos_scan.specs.Cutting.{context_after, is_separator, nothing_at, piece_with, is_ended, starts, closed_piece, pieces_from, cut_pieces}
use Rattle.mos_scan.proofs.Lists.{on_bool}

-- ---- what the code keeps

-- what is kept of the tokens behind
abbrev pub context_of : List Token → Context
context_of tokens = record {
  depth = depth tokens;
  last = last_kind tokens;
  declarations = in_declarations tokens;
  parameters = in_parameters tokens;
  initializations = in_initializations tokens;
}

-- what is kept of the piece that is read
abbrev pub open_of : List Token → List Token → OpenPiece
open_of before xs = record {
  from = length before;
  count = length xs;
  line = first_line xs;
  first = first_kind xs;
  second = second_kind xs;
  last = last_kind xs;
  depth = depth xs;
}

last_more : (xs : List Token) (t : Token) → last_kind (xs ++ t ∷ []) ≡ t.kind
last_more xs t = fold-append (λ (before : TokenKind) (u : Token). u.kind) Newline xs (t ∷ [])

depth_more : (xs : List Token) (t : Token) → depth (xs ++ t ∷ []) ≡ depth_behind (depth xs) t.kind
depth_more xs t = fold-append (λ (before : ℕ) (u : Token). depth_behind before u.kind) 0 xs (t ∷ [])

context_more : (xs : List Token) (t : Token) → context_of (xs ++ t ∷ []) ≡ context_after (context_of xs) t.kind
unfolding context_after
context_more xs t =
    let d : in_declarations (xs ++ t ∷ []) ≡ declarations_after (in_declarations xs) t.kind = fold-append (λ before (u : Token). declarations_after before u.kind) false xs (t ∷ []) in
    let p : in_parameters (xs ++ t ∷ []) ≡ parameters_after (in_parameters xs) t.kind = fold-append (λ before (u : Token). parameters_after before u.kind) false xs (t ∷ []) in
    let i : in_initializations (xs ++ t ∷ []) ≡ initializations_after (in_initializations xs) t.kind = fold-append (λ before (u : Token). initializations_after before u.kind) false xs (t ∷ []) in
    rw (depth_more xs t, last_more xs t, d, p, i) refl

open_more : (before xs : List Token) (t : Token) → open_of before (xs ++ t ∷ []) ≡ piece_with (open_of before xs) t
unfolding piece_with
open_more before [] t = refl
open_more before (x ∷ []) t = refl
open_more before (x ∷ y ∷ ys) t =
    let some : nat_eq (length (x ∷ y ∷ ys)) 0 ≡ false = ne_eqb _ _ (λ e. omega (arith, e)) in
    let more : nat_eq (length (x ∷ y ∷ ys)) 1 ≡ false = ne_eqb _ _ (λ e. omega (arith, e)) in
    let count : length (x ∷ y ∷ (ys ++ t ∷ [])) ≡ length (x ∷ y ∷ ys) + 1 = omega (arith, length-append ys (t ∷ [])) in
    rw (some, more, count, depth_more (x ∷ y ∷ ys) t, last_more (x ∷ y ∷ ys) t) refl

open_none : (before : List Token) → open_of before [] ≡ nothing_at (length before)
unfolding nothing_at
open_none before = refl

separator_is : (before : List Token) (kind : TokenKind) → is_separator (context_of before) kind ≡ separates before kind
unfolding is_separator
separator_is before kind = refl

starts_is : (before xs : List Token) (kind : TokenKind) → starts (context_of (before ++ xs)) (open_of before xs) kind ≡ (begins_piece kind || ends_piece before xs)
unfolding starts is_ended
starts_is before xs kind = refl

closed_none : (before : List Token) → closed_piece (open_of before []) ≡ []
unfolding closed_piece
closed_none before = refl

closed_some : (before : List Token) (x : Token) (xs : List Token) → closed_piece (open_of before (x ∷ xs)) ≡ piece_of before (x ∷ xs) ∷ []
unfolding closed_piece
closed_some before x xs =
    let some : nat_lt 0 (length (x ∷ xs)) ≡ true = lt-ltb _ _ (omega arith) in rw some refl

-- ---- what is cut are pieces

-- either nothing is open, or tokens that no cut parts
pub IsOpen : List Token → List Token → Type 0
IsOpen before [] = Unit {0}
IsOpen before (x ∷ xs) = IsUncut before (x ∷ xs)

none_open : (before : List Token) → IsOpen before []
unfolding IsOpen
none_open before = tt

uncut_open : (before xs : List Token) → IsUncut before xs → IsOpen before xs
unfolding IsOpen
uncut_open before [] u = tt
uncut_open before (x ∷ xs) u = u

-- what is open is a piece before what follows it
close_open : (before xs ts : List Token) (ps : List Piece) → IsOpen before xs → IsEnded before xs ts → ArePiecesBehind (before ++ xs) ts ps → ArePiecesBehind before (xs ++ ts) (closed_piece (open_of before xs) ++ ps)
unfolding IsOpen
close_open before [] ts ps o e more =
    subst (λ qs. ArePiecesBehind before ts (qs ++ ps)) (sym (closed_none before)) (subst (λ b. ArePiecesBehind b ts ps) (append-nil before) more)
close_open before (x ∷ xs) ts ps o e more =
    subst (λ qs. ArePiecesBehind before ((x ∷ xs) ++ ts) (qs ++ ps)) (sym (closed_some before x xs)) (whole_piece before (x ∷ xs) ts ps o e more)

neither : (a b : Bool) → a ≡ false → b ≡ false → (a || b) ≡ false
neither a b e h = rw (e, h) refl

-- one token more goes on with what is open
grown : (before xs : List Token) (t : Token) → IsOpen before xs → separates (before ++ xs) t.kind ≡ false → (begins_piece t.kind || ends_piece before xs) ≡ false → IsUncut before (xs ++ t ∷ [])
unfolding IsOpen
grown before [] t o s b = one_token t (subst (λ ts. separates ts t.kind ≡ false) (append-nil before) s)
grown before (x ∷ xs) t o s b = one_more (x ∷ xs) t o (neither (separates (before ++ x ∷ xs) t.kind) (begins_piece t.kind || ends_piece before (x ∷ xs)) s b)

pub pieces_here : (before xs ts : List Token) → IsOpen before xs → ArePiecesBehind before (xs ++ ts) (pieces_from (context_of (before ++ xs)) (open_of before xs) ts)
pieces_here before xs [] o =
    subst (λ ps. ArePiecesBehind before (xs ++ []) ps) (append-nil (closed_piece (open_of before xs))) (close_open before xs [] [] o tt (no_token (before ++ xs)))
pieces_here before xs (t ∷ ts) o =
    let here : Context = context_of (before ++ xs) in
    let piece : OpenPiece = open_of before xs in
    on_bool (separates (before ++ xs) t.kind)
    (λ s.
    let all : List Token = (before ++ xs) ++ t ∷ [] in
    let more : ArePiecesBehind all ts (pieces_from (context_of (all ++ [])) (open_of all []) ts) = pieces_here all [] ts (none_open all) in
    let next : context_of (all ++ []) ≡ context_after here t.kind = ap (λ zs. context_of zs) (append-nil all) ∙ context_more (before ++ xs) t in
    let place : length all ≡ piece.from + piece.count + 1 = omega (arith, length-append (before ++ xs) (t ∷ []), length-append before xs) in
    let begun : open_of all [] ≡ nothing_at (piece.from + piece.count + 1) = open_none all ∙ ap (λ n. nothing_at n) place in
    let rest : List Piece = pieces_from (context_after here t.kind) (nothing_at (piece.from + piece.count + 1)) ts in
    let behind : ArePiecesBehind all ts rest =
    subst (λ o. ArePiecesBehind all ts (pieces_from (context_after here t.kind) o ts)) begun (subst (λ c. ArePiecesBehind all ts (pieces_from c (open_of all []) ts)) next more) in
    let whole : ArePiecesBehind before (xs ++ t ∷ ts) (closed_piece piece ++ rest) =
    close_open before xs (t ∷ ts) rest o (or_left (separates (before ++ xs) t.kind) (begins_piece t.kind || ends_piece before xs) s) (separator (before ++ xs) t ts rest s behind) in
    rw (separator_is (before ++ xs) t.kind ∙ s) whole)
    (λ s.
    on_bool (begins_piece t.kind || ends_piece before xs)
    (λ b.
    let all : List Token = before ++ xs in
    let first : IsOpen all (t ∷ []) = uncut_open all (t ∷ []) (one_token t s) in
    let more : ArePiecesBehind all (t ∷ ts) (pieces_from (context_of (all ++ t ∷ [])) (open_of all (t ∷ [])) ts) = pieces_here all (t ∷ []) ts first in
    let begun : open_of all (t ∷ []) ≡ piece_with (nothing_at (piece.from + piece.count)) t =
    open_more all [] t ∙ ap (λ o. piece_with o t) (open_none all ∙ ap (λ n. nothing_at n) (length-append before xs)) in
    let rest : List Piece = pieces_from (context_after here t.kind) (piece_with (nothing_at (piece.from + piece.count)) t) ts in
    let behind : ArePiecesBehind all (t ∷ ts) rest =
    subst (λ o. ArePiecesBehind all (t ∷ ts) (pieces_from (context_after here t.kind) o ts)) begun (subst (λ c. ArePiecesBehind all (t ∷ ts) (pieces_from c (open_of all (t ∷ [])) ts)) (context_more all t) more) in
    let whole : ArePiecesBehind before (xs ++ t ∷ ts) (closed_piece piece ++ rest) =
    close_open before xs (t ∷ ts) rest o (or_right (separates (before ++ xs) t.kind) (begins_piece t.kind || ends_piece before xs) b) behind in
    rw (separator_is (before ++ xs) t.kind ∙ s, starts_is before xs t.kind ∙ b) whole)
    (λ b.
    let all : List Token = xs ++ t ∷ [] in
    let uncut : IsUncut before all = grown before xs t o s b in
    let more : ArePiecesBehind before (all ++ ts) (pieces_from (context_of (before ++ all)) (open_of before all) ts) = pieces_here before all ts (uncut_open before all uncut) in
    let next : context_of (before ++ all) ≡ context_after here t.kind = ap (λ zs. context_of zs) (sym (append_assoc before xs (t ∷ []))) ∙ context_more (before ++ xs) t in
    let rest : List Piece = pieces_from (context_after here t.kind) (piece_with piece t) ts in
    let behind : ArePiecesBehind before (all ++ ts) rest =
    subst (λ o. ArePiecesBehind before (all ++ ts) (pieces_from (context_after here t.kind) o ts)) (open_more before xs t) (subst (λ c. ArePiecesBehind before (all ++ ts) (pieces_from c (open_of before all) ts)) next more) in
    let whole : ArePiecesBehind before (xs ++ t ∷ ts) rest = subst (λ zs. ArePiecesBehind before zs rest) (append_assoc xs (t ∷ []) ts) behind in
    rw (separator_is (before ++ xs) t.kind ∙ s, starts_is before xs t.kind ∙ b) whole))

-- ---- pieces are what is cut

-- what the code gives, from these tokens on
abbrev cut_from : List Token → List Token → List Token → List Piece
cut_from before xs ts = pieces_from (context_of (before ++ xs)) (open_of before xs) ts

-- where nothing is open, it makes no difference whether a piece begins with the token
fresh : (before : List Token) (t : Token) (ts : List Token) → separates before t.kind ≡ false → cut_from before [] (t ∷ ts) ≡ cut_from before (t ∷ []) ts
fresh before t ts s =
    let here : Context = context_of (before ++ []) in
    let plain : separates (before ++ []) t.kind ≡ false = subst (λ zs. separates zs t.kind ≡ false) (sym (append-nil before)) s in
    let next : context_of (before ++ t ∷ []) ≡ context_after here t.kind = context_more before t ∙ ap (λ zs. context_after (context_of zs) t.kind) (sym (append-nil before)) in
    let goal : pieces_from (context_after here t.kind) (piece_with (open_of before []) t) ts ≡ cut_from before (t ∷ []) ts =
    ap (λ o. pieces_from (context_after here t.kind) o ts) (sym (open_more before [] t)) ∙ ap (λ c. pieces_from c (open_of before (t ∷ [])) ts) (sym next) in
    on_bool (begins_piece t.kind || ends_piece before [])
    (λ b.
    let place : (open_of before []).from + (open_of before []).count ≡ length before = omega arith in
    let begun : piece_with (nothing_at ((open_of before []).from + (open_of before []).count)) t ≡ piece_with (open_of before []) t =
    ap (λ n. piece_with (nothing_at n) t) place ∙ ap (λ o. piece_with o t) (sym (open_none before)) in
    rw (separator_is (before ++ []) t.kind ∙ plain, starts_is before [] t.kind ∙ b, closed_none before) (ap (λ o. pieces_from (context_after here t.kind) o ts) begun ∙ goal))
    (λ b. rw (separator_is (before ++ []) t.kind ∙ plain, starts_is before [] t.kind ∙ b) goal)

-- tokens that no cut parts are read as one piece
read_on : (before xs ts : List Token) → IsUncut before xs → cut_from before [] (xs ++ ts) ≡ cut_from before xs ts
read_on before _ ts (one_token t s) = fresh before t ts s
read_on before _ ts (one_more xs t u joined) =
    let here : Context = context_of (before ++ xs) in
    let apart = or_parts (separates (before ++ xs) t.kind) (begins_piece t.kind || ends_piece before xs) joined in
    let next : context_of (before ++ (xs ++ t ∷ [])) ≡ context_after here t.kind = ap (λ zs. context_of zs) (sym (append_assoc before xs (t ∷ []))) ∙ context_more (before ++ xs) t in
    let step : cut_from before xs (t ∷ ts) ≡ cut_from before (xs ++ t ∷ []) ts =
    rw (separator_is (before ++ xs) t.kind ∙ apart.0, starts_is before xs t.kind ∙ apart.1)
    (ap (λ o. pieces_from (context_after here t.kind) o ts) (sym (open_more before xs t)) ∙ ap (λ c. pieces_from c (open_of before (xs ++ t ∷ [])) ts) (sym next)) in
    ap (λ zs. cut_from before [] zs) (append_assoc xs (t ∷ []) ts) ∙ read_on before xs (t ∷ ts) u ∙ step

-- a cut closes what is open
closes : (before xs ts : List Token) (t : Token) → is_cut before xs t.kind ≡ true → cut_from before xs (t ∷ ts) ≡ closed_piece (open_of before xs) ++ cut_from (before ++ xs) [] (t ∷ ts)
closes before xs ts t cut =
    let all : List Token = before ++ xs in
    let here : Context = context_of all in
    let piece : OpenPiece = open_of before xs in
    let none : all ++ [] ≡ all = append-nil all in
    let place : piece.from + piece.count ≡ length all = sym (length-append before xs) in
    on_bool (separates all t.kind)
    (λ s.
    let same : piece.from + piece.count + 1 ≡ (open_of all []).from + (open_of all []).count + 1 = omega (arith, place) in
    let later : cut_from all [] (t ∷ ts) ≡ pieces_from (context_after here t.kind) (nothing_at ((open_of all []).from + (open_of all []).count + 1)) ts =
    rw (none, separator_is all t.kind ∙ s, closed_none all) refl in
    rw (separator_is all t.kind ∙ s, later, same) refl)
    (λ s.
    let begins : (begins_piece t.kind || ends_piece before xs) ≡ true = rw s at cut in
    let later : cut_from all [] (t ∷ ts) ≡ pieces_from (context_after here t.kind) (piece_with (nothing_at (length all)) t) ts =
    fresh all t ts s ∙ ap (λ c. pieces_from c (open_of all (t ∷ [])) ts) (context_more all t) ∙ ap (λ o. pieces_from (context_after here t.kind) o ts) (open_more all [] t ∙ ap (λ o. piece_with o t) (open_none all)) in
    rw (separator_is all t.kind ∙ s, starts_is before xs t.kind ∙ begins, later, place) refl)

-- a piece has a token
closed_uncut : (before xs : List Token) → IsUncut before xs → closed_piece (open_of before xs) ≡ piece_of before xs ∷ []
closed_uncut before _ (one_token t s) = closed_some before t []
closed_uncut before _ (one_more [] t u joined) = closed_some before t []
closed_uncut before _ (one_more (x ∷ xs) t u joined) = closed_some before x (xs ++ t ∷ [])

pub cut_are : (before rest : List Token) (ps : List Piece) → ArePiecesBehind before rest ps → ps ≡ cut_from before [] rest
cut_are _ _ _ (no_token before) = sym (closed_none before)
cut_are _ _ _ (separator before t ts ps s more) =
    let all : List Token = before ++ t ∷ [] in
    let none : before ++ [] ≡ before = append-nil before in
    let same : ps ≡ cut_from all [] ts = cut_are all ts ps more in
    let next : context_of (all ++ []) ≡ context_after (context_of before) t.kind = ap (λ zs. context_of zs) (append-nil all) ∙ context_more before t in
    let place : length all ≡ length before + 0 + 1 = omega (arith, length-append before (t ∷ [])) in
    let there : cut_from all [] ts ≡ pieces_from (context_after (context_of before) t.kind) (nothing_at (length before + 0 + 1)) ts =
    ap (λ c. pieces_from c (open_of all []) ts) next ∙ ap (λ o. pieces_from (context_after (context_of before) t.kind) o ts) (open_none all ∙ ap (λ n. nothing_at n) place) in
    let here : cut_from before [] (t ∷ ts) ≡ pieces_from (context_after (context_of before) t.kind) (nothing_at (length before + 0 + 1)) ts =
    rw (none, separator_is before t.kind ∙ s, closed_none before) refl in
    same ∙ there ∙ sym here
cut_are _ _ _ (whole_piece before xs [] ps u e more) =
    let same : ps ≡ cut_from (before ++ xs) [] [] = cut_are (before ++ xs) [] ps more in
    let none : ps ≡ [] = same ∙ closed_none (before ++ xs) in
    rw none (sym (closed_uncut before xs u) ∙ sym (read_on before xs [] u))
cut_are _ _ _ (whole_piece before xs (t ∷ ts) ps u e more) =
    let same : ps ≡ cut_from (before ++ xs) [] (t ∷ ts) = cut_are (before ++ xs) (t ∷ ts) ps more in
    let all : cut_from before [] (xs ++ t ∷ ts) ≡ closed_piece (open_of before xs) ++ cut_from (before ++ xs) [] (t ∷ ts) = read_on before xs (t ∷ ts) u ∙ closes before xs ts t e in
    sym (all ∙ ap (λ qs. qs ++ cut_from (before ++ xs) [] (t ∷ ts)) (closed_uncut before xs u) ∙ ap (λ qs. piece_of before xs ∷ qs) (sym same))

-- ---- the clauses

-- tokens are cut into pieces in one way
pub one_cut : (tokens : List Token) (ps qs : List Piece) → ArePieces tokens ps → ArePieces tokens qs → ps ≡ qs
one_cut tokens ps qs a b = cut_are [] tokens ps a ∙ sym (cut_are [] tokens qs b)

pub some_cut : (tokens : List Token) → (ps : List Piece) × ArePieces tokens ps
unfolding IsOpen nothing_at
some_cut tokens = (cut_pieces tokens, pieces_here [] [] tokens tt)

pub found_pieces : {V E : Type 0} (items : V → List Piece) (tokens : List Token) (r : Result V E) → IfOk r (λ v. items v ≡ cut_pieces tokens) → IfOk r (λ v. ArePieces tokens (items v))
unfolding IsOpen nothing_at
found_pieces items tokens (Ok v) e = subst (λ ps. ArePieces tokens ps) (sym e) (pieces_here [] [] tokens tt)
found_pieces items tokens (Err x) e = tt

pub only_pieces : {V E : Type 0} (items : V → List Piece) (tokens : List Token) (r : Result V E) → IfOk r (λ v. items v ≡ cut_pieces tokens) → (ps : List Piece) → ArePieces tokens ps → IfOk r (λ v. items v ≡ ps)
unfolding nothing_at
only_pieces items tokens (Ok v) e ps a = e ∙ sym (cut_are [] tokens ps a)
only_pieces items tokens (Err x) e ps a = tt
