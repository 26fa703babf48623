-- The last of some parts, and the last set or the condition of an index, make a whole.

use Rattle.std.proofs.Common.{◌≡◌, ◌+◌, ◌≤◌, max, List, [], ◌∷◌, ◌++◌, Some, None, refl, sym, ◌∙◌, ap, arith, append_assoc}
use Rattle.mos_scan.specs.declared.token.TokenKind.TheVariants as token_kind
use Rattle.mos_scan.specs.declared.grammar_word.Word.{Word}
use Rattle.mos_scan.specs.declared.grammar_word.Word.TheVariants as word_kind
use Rattle.mos_expr.specs.Grammar.{Names, Syntax, no_syntax, syntax_then, last_set, such_that, level, tree, height, heights, height_index, groups_of, IsGrouped, spell, spell_names, spell_list, spell_index, list_of_names}
use Rattle.mos_expr.specs.Operands as operands
use Rattle.mos_expr.specs.declared.operand.Parts.{Parts}
use Rattle.mos_expr.specs.declared.operand.Groups.{Groups}
use Rattle.mos_expr.proofs.Values.{whole, parts_at, index_at, group_of, parts-whole, groups-whole, index-whole, conditioned-whole}
use Rattle.mos_expr.proofs.Holds.{PartsBefore, SetsBefore, LastSet, SpelledIndex, WholeParts}

-- the last of some parts
abbrev pub parts_done : (parts : Parts) (p : PartsBefore parts) (s : Syntax) → IsGrouped s → WholeParts (operands.parts_with parts (whole s))
parts_done parts p s g = record {
  written = p.with_more (syntax_then s no_syntax);
  grouped = p.grouped (syntax_then s no_syntax) (g, tt);
  is =
      ap (λ q. operands.parts_with q (whole s)) p.is ∙ parts-whole p.h p.xs s
      ∙ ap (λ k. parts_at k (p.xs ++ tree s ∷ [])) (let e : max p.h (height s) ≡ max p.h (max (height s) 0) = omega arith in e ∙ sym (p.high (syntax_then s no_syntax)))
      ∙ ap (λ xs. parts_at (heights (p.with_more (syntax_then s no_syntax))) xs) (sym (p.made (syntax_then s no_syntax)));
}

pub parts_words : (parts : Parts) (p : PartsBefore parts) (s : Syntax) (rest : List Word) → p.words (spell s ++ rest) ≡ spell_list (p.with_more (syntax_then s no_syntax)) ++ rest
parts_words parts p s rest = sym (p.spelled s no_syntax rest)

abbrev pub no_parts_done : WholeParts operands.no_parts
no_parts_done = record { written = no_syntax; grouped = tt; is = refl }

-- an index whose last set has no condition
abbrev pub set_done : (groups : Groups) (sets : SetsBefore groups) (ns : Names) (s : Syntax) → level s ≤ 5 → IsGrouped s → SpelledIndex (operands.whole_index_of (operands.groups_with groups (list_of_names ns) (whole s)))
set_done groups sets ns s l g = record {
  over = sets.with_more (last_set ns s);
  grouped = sets.grouped (last_set ns s) (l, g);
  is =
      ap (λ q. operands.whole_index_of (operands.groups_with q (list_of_names ns) (whole s))) sets.is
      ∙ ap operands.whole_index_of (groups-whole sets.h sets.gs (list_of_names ns) s)
      ∙ index-whole (max sets.h (height s + 1)) (sets.gs ++ group_of (list_of_names ns) s ∷ [])
      ∙ ap (λ k. index_at k (record { groups = sets.gs ++ group_of (list_of_names ns) s ∷ []; condition = None })) (sym (sets.high (last_set ns s)))
      ∙ ap (λ gs. index_at (height_index (sets.with_more (last_set ns s))) (record { groups = gs; condition = None })) (sym (sets.made (last_set ns s)))
      ∙ ap (λ x. index_at (height_index (sets.with_more (last_set ns s))) (record { groups = groups_of (sets.with_more (last_set ns s)); condition = x })) (sym (sets.condition (last_set ns s)));
}

-- the last set of an index, whose condition comes next
abbrev pub set_before_condition : (groups : Groups) (sets : SetsBefore groups) (ns : Names) (s : Syntax) → level s ≤ 5 → IsGrouped s → LastSet (operands.groups_with groups (list_of_names ns) (whole s))
set_before_condition groups sets ns s l g = record {
  earlier = groups;
  sets = sets;
  names = ns;
  syntax = s;
  tight = l;
  grouped = g;
  is = ap (λ q. operands.groups_with q (list_of_names ns) (whole s)) sets.is ∙ groups-whole sets.h sets.gs (list_of_names ns) s;
}

-- an index with its condition
abbrev pub condition_done : (groups : Groups) (last : LastSet groups) (x : Syntax) → IsGrouped x → SpelledIndex (operands.conditioned_index_of groups (whole x))
condition_done groups last x g =
    record {
      over = last.sets.with_more (such_that last.names last.syntax x);
      grouped = last.sets.grouped (such_that last.names last.syntax x) (last.tight, last.grouped, g);
      is =
          ap (λ q. operands.conditioned_index_of q (whole x)) last.is
          ∙ conditioned-whole (max last.sets.h (height last.syntax + 1)) (last.sets.gs ++ group_of (list_of_names last.names) last.syntax ∷ []) x
          ∙ ap (λ k. index_at k (record { groups = last.sets.gs ++ group_of (list_of_names last.names) last.syntax ∷ []; condition = Some (tree x) })) (let e : max (max last.sets.h (height last.syntax + 1)) (height x) ≡ max last.sets.h (max (height last.syntax + 1) (height x)) = omega arith in e ∙ sym (last.sets.high (such_that last.names last.syntax x)))
          ∙ ap (λ gs. index_at (height_index (last.sets.with_more (such_that last.names last.syntax x))) (record { groups = gs; condition = Some (tree x) })) (sym (last.sets.made (such_that last.names last.syntax x)))
          ∙ ap (λ y. index_at (height_index (last.sets.with_more (such_that last.names last.syntax x))) (record { groups = groups_of (last.sets.with_more (such_that last.names last.syntax x)); condition = y })) (sym (last.sets.condition (such_that last.names last.syntax x)));
    }

pub set_words : (ns : Names) (s : Syntax) (rest : List Word) → spell_names ns ++ word_kind.Key token_kind.In ∷ (spell s ++ rest) ≡ spell_index (last_set ns s) ++ rest
set_words ns s rest = sym (append_assoc (spell_names ns) (word_kind.Key token_kind.In ∷ spell s) rest)

pub condition_words : (ns : Names) (s x : Syntax) (rest : List Word) → spell_names ns ++ word_kind.Key token_kind.In ∷ (spell s ++ word_kind.Key token_kind.Bar ∷ (spell x ++ rest)) ≡ spell_index (such_that ns s x) ++ rest
condition_words ns s x rest = simp append_assoc
