-- As the code reads, apart from what the public clauses say: what the first words of a piece say of
-- it.

use Rattle.std.specs.Prelude.{Option, Some, None}
use Rattle.mos_tree.specs.declared.statement.Assignment.TheVariants as assignment
use Rattle.mos_scan.specs.declared.token.TokenKind.{TokenKind}
use Rattle.mos_scan.specs.declared.token.TokenKind.TheVariants as token_kind
use Rattle.mos_scan.specs.declared.grammar_word.Word.{Word}
use Rattle.mos_scan.specs.declared.grammar_word.Word.TheVariants as word_kind
use Rattle.mos_tree.specs.declared.form.ConditionKeyword.TheVariants as condition
use Rattle.mos_tree.specs.declared.form.Keyword.{Keyword}
use Rattle.mos_tree.specs.declared.form.Keyword.TheVariants as keyword
use Rattle.mos_form.specs.declared.head.Head.{Head}
use Rattle.mos_form.specs.declared.head.Head.TheVariants as head_kind
use Rattle.mos_form.specs.declared.head.Next.{Next}
use Rattle.mos_form.specs.declared.head.Next.TheVariants as next_kind

-- the keywords with a condition; any other token is a piece alone, or begins none
abbrev pub condition_or_single : TokenKind → Head
condition_or_single token_kind.If = head_kind.Guarded condition.If
condition_or_single token_kind.Elif = head_kind.Guarded condition.Elif
condition_or_single token_kind.Case = head_kind.Guarded condition.Case
condition_or_single token_kind.While = head_kind.Guarded condition.While
condition_or_single token_kind.Until = head_kind.Guarded condition.Until
condition_or_single _ = head_kind.Single

-- what the first word says, where it is a token
abbrev pub head_of : TokenKind → Head
head_of token_kind.Model = head_kind.Model
head_of token_kind.Uses = head_kind.Uses
head_of token_kind.Options = head_kind.Options
head_of token_kind.Procedure = head_kind.Procedure
head_of token_kind.Function = head_kind.Function
head_of token_kind.Forward = head_kind.Forward
head_of token_kind.Forall = head_kind.Forall
head_of token_kind.Initializations = head_kind.Initializations
head_of token_kind.Returned = head_kind.Returned
head_of kind = condition_or_single kind

-- what a token behind a name says
abbrev pub next_of_kind : TokenKind → Next
next_of_kind token_kind.Equal = next_kind.Equal
next_of_kind token_kind.Fill = next_kind.Fill
next_of_kind token_kind.OpenRound = next_kind.OpenRound
next_of_kind token_kind.Dot = next_kind.Dot
next_of_kind token_kind.Assign = next_kind.Assigns assignment.Set
next_of_kind token_kind.AddAssign = next_kind.Assigns assignment.Add
next_of_kind token_kind.TakeAssign = next_kind.Assigns assignment.Take
next_of_kind token_kind.Comma = next_kind.List
next_of_kind token_kind.Colon = next_kind.List
next_of_kind token_kind.As = next_kind.List
next_of_kind _ = next_kind.Other

-- what the word behind a name says
abbrev pub next_of : Word → Next
next_of (word_kind.Key kind) = next_of_kind kind
next_of _ = next_kind.Other

-- the tokens that end a block
abbrev pub end_of : TokenKind → Option Keyword
end_of token_kind.EndModel = Some keyword.EndModel
end_of token_kind.EndParameters = Some keyword.EndParameters
end_of token_kind.EndDeclarations = Some keyword.EndDeclarations
end_of token_kind.EndRecord = Some keyword.EndRecord
end_of token_kind.EndProcedure = Some keyword.EndProcedure
end_of token_kind.EndFunction = Some keyword.EndFunction
end_of token_kind.EndIf = Some keyword.EndIf
end_of token_kind.EndCase = Some keyword.EndCase
end_of token_kind.EndDo = Some keyword.EndDo
end_of token_kind.EndInitializations = Some keyword.EndInitializations
end_of _ = None

-- the piece that is one word
abbrev pub keyword_of : TokenKind → Option Keyword
keyword_of token_kind.Parameters = Some keyword.Parameters
keyword_of token_kind.Declarations = Some keyword.Declarations
keyword_of token_kind.Else = Some keyword.Else
keyword_of token_kind.Repeat = Some keyword.Repeat
keyword_of token_kind.Do = Some keyword.Do
keyword_of kind = end_of kind
