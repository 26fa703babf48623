-- The laws that every legal journal keeps, in one: for calls that make a journal longer.

use Rattle.std.specs.Prelude.{List}
use Rattle.job_calls.specs.declared.entry.Entry.{Entry}
use Rattle.job_calls.specs.Legal.{IsLegal}
use Rattle.job_laws.specs.Order.{TakesInOrder, TakesOnce, PipesInOrder, PipesWhole, StopsWhenAsked}

-- what users rely on, whatever runs call and however many lanes there are
pub record KeepsLaws (journal : List Entry) : Type 0 where
  pub takes_in_order : TakesInOrder journal
  pub takes_once : TakesOnce journal
  pub pipes_in_order : PipesInOrder journal
  pub pipes_whole : PipesWhole journal
  pub stops_when_asked : StopsWhenAsked journal

-- every legal journal keeps them
abbrev pub LegalKeepsLaws : Type 0
LegalKeepsLaws = (journal : List Entry) → IsLegal journal → KeepsLaws journal
