-- Pieces: where the tokens of a source are cut. A piece is a run of tokens that no cut parts, ended by
-- a cut or by the end of the tokens; a separator belongs to none.

use Rattle.std.specs.Prelude.{◌≡◌, ℕ, ◌+◌, ◌-◌, Bool, true, false, not, ◌&&◌, ◌||◌, ◌==◌, List, [], ◌∷◌, ◌++◌, length, fold, ⊤}
use Rattle.mos_scan.specs.declared.token.TokenKind.{TokenKind}
use Rattle.mos_scan.specs.declared.token.TokenKind.TheVariants.{Newline, Semicolon, Colon, Of, Plus, Minus, Times, Equal, Less, Greater, NotEqual, AtMost, AtLeast, DotDot, Comma, Assign, AddAssign, TakeAssign, Fill, Bar, Dot, OpenRound, OpenSquare, OpenCurly, CloseRound, CloseSquare, CloseCurly, And, Or, Not, In, Div, Mod, Union, Inter, Declarations, EndDeclarations, Parameters, EndParameters, Initializations, EndInitializations, Forall, While, Case, Procedure, Function, Forward, Elif, Else, Until, EndCase, EndDo, EndFunction, EndIf, EndModel, EndProcedure, EndRecord, Then, Do, Repeat, Record}
use Rattle.mos_scan.specs.declared.token.Token.{Token}
use Rattle.mos_scan.specs.declared.piece.Piece.{Piece}

-- ---- the tokens at either end

-- the kind of the last token; where there is none, that of a newline
abbrev pub last_kind : List Token → TokenKind
last_kind tokens = fold (λ before t. t.kind) Newline tokens

-- the kind of the first token; where there is none, that of a newline
abbrev pub first_kind : List Token → TokenKind
first_kind [] = Newline
first_kind (t ∷ ts) = t.kind

-- the kind of the second token; where there is none, that of a newline
abbrev pub second_kind : List Token → TokenKind
second_kind [] = Newline
second_kind (t ∷ ts) = first_kind ts

-- the line of the first token
abbrev pub first_line : List Token → ℕ
first_line [] = 0
first_line (t ∷ ts) = t.line

-- ---- brackets

-- how many brackets are open behind one token more; a closing one too many counts nothing
abbrev pub depth_behind : ℕ → TokenKind → ℕ
depth_behind depth OpenRound = depth + 1
depth_behind depth OpenSquare = depth + 1
depth_behind depth OpenCurly = depth + 1
depth_behind depth CloseRound = depth - 1
depth_behind depth CloseSquare = depth - 1
depth_behind depth CloseCurly = depth - 1
depth_behind depth _ = depth

-- how many brackets are open behind these tokens
abbrev pub depth : List Token → ℕ
depth tokens = fold (λ before t. depth_behind before t.kind) 0 tokens

-- ---- newlines that end something

-- an operator that is a symbol
unfoldable pub is_operator : TokenKind → Bool
is_operator Plus = true
is_operator Minus = true
is_operator Times = true
is_operator Equal = true
is_operator Less = true
is_operator Greater = true
is_operator NotEqual = true
is_operator AtMost = true
is_operator AtLeast = true
is_operator DotDot = true
is_operator _ = false

-- an operator that is a word
unfoldable pub is_operator_word : TokenKind → Bool
is_operator_word And = true
is_operator_word Or = true
is_operator_word Not = true
is_operator_word In = true
is_operator_word Div = true
is_operator_word Mod = true
is_operator_word Union = true
is_operator_word Inter = true
is_operator_word _ = false

-- a symbol that wants something behind it
unfoldable pub joins : TokenKind → Bool
joins Comma = true
joins Assign = true
joins AddAssign = true
joins TakeAssign = true
joins Fill = true
joins Bar = true
joins Dot = true
joins OpenRound = true
joins OpenSquare = true
joins OpenCurly = true
joins _ = false

-- a newline directly behind this token ends nothing
abbrev pub goes_on : TokenKind → Bool
goes_on kind = is_operator kind || is_operator_word kind || joins kind

-- a token at this depth, directly behind this last one, belongs to no piece
unfoldable pub separates_at : ℕ → TokenKind → TokenKind → Bool
separates_at depth before Semicolon = true
separates_at depth before Newline = depth == 0 && not (goes_on before)
separates_at depth before _ = false

-- the token behind these belongs to no piece: a semicolon, or a newline that ends something
abbrev pub separates : List Token → TokenKind → Bool
separates before kind = separates_at (depth before) (last_kind before) kind

-- ---- blocks of items

-- whether `declarations` are open behind one token more
abbrev pub declarations_after : Bool → TokenKind → Bool
declarations_after before Declarations = true
declarations_after before EndDeclarations = false
declarations_after before _ = before

-- whether `parameters` are open behind one token more
abbrev pub parameters_after : Bool → TokenKind → Bool
parameters_after before Parameters = true
parameters_after before EndParameters = false
parameters_after before _ = before

-- whether `initializations` are open behind one token more
abbrev pub initializations_after : Bool → TokenKind → Bool
initializations_after before Initializations = true
initializations_after before EndInitializations = false
initializations_after before _ = before

-- `declarations` stands before, without its end word behind it
abbrev pub in_declarations : List Token → Bool
in_declarations tokens = fold (λ before t. declarations_after before t.kind) false tokens

-- `parameters` stands before, without its end word behind it
abbrev pub in_parameters : List Token → Bool
in_parameters tokens = fold (λ before t. parameters_after before t.kind) false tokens

-- `initializations` stands before, without its end word behind it
abbrev pub in_initializations : List Token → Bool
in_initializations tokens = fold (λ before t. initializations_after before t.kind) false tokens

-- a colon behind these tokens belongs to an item
abbrev pub in_items : List Token → Bool
in_items tokens = in_declarations tokens || in_parameters tokens || in_initializations tokens

-- ---- cuts before and behind a token

-- a word that ends a block
abbrev pub is_end_word : TokenKind → Bool
is_end_word EndCase = true
is_end_word EndDeclarations = true
is_end_word EndDo = true
is_end_word EndFunction = true
is_end_word EndIf = true
is_end_word EndInitializations = true
is_end_word EndModel = true
is_end_word EndParameters = true
is_end_word EndProcedure = true
is_end_word EndRecord = true
is_end_word _ = false

-- there is a cut before this token
unfoldable pub begins_piece : TokenKind → Bool
begins_piece Elif = true
begins_piece Else = true
begins_piece Until = true
begins_piece kind = is_end_word kind

-- there is a cut behind this token, wherever it stands
unfoldable pub ends_always : TokenKind → Bool
ends_always Then = true
ends_always Else = true
ends_always Do = true
ends_always Repeat = true
ends_always Declarations = true
ends_always Parameters = true
ends_always Record = true
ends_always kind = is_end_word kind

-- `forall` or `while`
unfoldable pub is_loop : TokenKind → Bool
is_loop Forall = true
is_loop While = true
is_loop _ = false

-- `procedure`, `function` or `forward`
unfoldable pub is_heading : TokenKind → Bool
is_heading Procedure = true
is_heading Function = true
is_heading Forward = true
is_heading _ = false

-- a piece that begins with `forall (` or `while (`, with so many of its own brackets open
abbrev pub closes_loop : TokenKind → TokenKind → ℕ → Bool
closes_loop first OpenRound inner = is_loop first && (inner == 0)
closes_loop first _ inner = false

-- a piece that begins with `case` and ends with `of`
abbrev pub closes_case : TokenKind → TokenKind → Bool
closes_case Case Of = true
closes_case first _ = false

-- a piece that ends with a colon outside brackets, and is neither a heading nor an item
abbrev pub closes_label : TokenKind → TokenKind → ℕ → Bool → Bool
closes_label first Colon outer items = (outer == 0) && not (is_heading first) && not items
closes_label first _ outer items = false

-- a piece ends by its first two tokens and its last, by the brackets open in it and in all, and where items stand
unfoldable pub ends_by : TokenKind → TokenKind → TokenKind → ℕ → ℕ → Bool → Bool
ends_by first second last inner outer items =
    ends_always last || closes_loop first second inner || closes_case first last || closes_label first last outer items

-- there is a cut behind the last token of a piece, with what comes before the piece
abbrev pub ends_piece : List Token → List Token → Bool
ends_piece before piece =
    ends_by (first_kind piece) (second_kind piece) (last_kind piece) (depth piece) (depth (before ++ piece)) (in_items (before ++ piece))

-- there is a cut between a piece, with what comes before it, and the next token
abbrev pub is_cut : List Token → List Token → TokenKind → Bool
is_cut before piece next = separates (before ++ piece) next || (begins_piece next || ends_piece before piece)

-- ---- pieces

-- tokens that no cut parts, with what comes before them
pub data IsUncut (before : List Token) : List Token → Type 0 where
  one_token : (t : Token) → separates before t.kind ≡ false → IsUncut before (t ∷ [])
  one_more : (xs : List Token) (t : Token) → IsUncut before xs → is_cut before xs t.kind ≡ false → IsUncut before (xs ++ t ∷ [])

-- a piece is ended by a cut, or by the end of the tokens
abbrev pub IsEnded : List Token → List Token → List Token → Type 0
IsEnded before piece [] = ⊤
IsEnded before piece (t ∷ ts) = is_cut before piece t.kind ≡ true

-- the piece of these tokens, with what comes before it
abbrev pub piece_of : List Token → List Token → Piece
piece_of before xs = record { from = length before; to = length before + length xs; line = first_line xs }

-- the pieces of the tokens that come behind others
pub data ArePiecesBehind : List Token → List Token → List Piece → Type 0 where
  no_token : (before : List Token) → ArePiecesBehind before [] []
  separator : (before : List Token) (t : Token) (ts : List Token) (ps : List Piece) → separates before t.kind ≡ true → ArePiecesBehind (before ++ t ∷ []) ts ps → ArePiecesBehind before (t ∷ ts) ps
  whole_piece : (before xs ts : List Token) (ps : List Piece) → IsUncut before xs → IsEnded before xs ts → ArePiecesBehind (before ++ xs) ts ps → ArePiecesBehind before (xs ++ ts) (piece_of before xs ∷ ps)

-- the pieces of the tokens of a source
abbrev pub ArePieces : List Token → List Piece → Type 0
ArePieces tokens ps = ArePiecesBehind [] tokens ps
