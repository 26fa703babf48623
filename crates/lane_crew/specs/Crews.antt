-- How the lanes that a crew was given have ended.
use Rattle.std.specs.Prelude.{◌≡◌, ◌⊎◌, ◌<◌, List, [], ◌∷◌, ◌++◌, length}
use Rattle.std.specs.List.{AllZip}
use Rattle.lane_crew.specs.declared.crewed.Crewed.{Crewed}
use Rattle.lane_crew.specs.declared.crewed.Crewed.TheVariants.{Ended, Refused, NoMemory}

module _ {L E : Type 0} where
  -- a start was refused: the lanes before it have run; the first lane, it and those behind it have quit
  pub record HaveStopped (ran quitted : L → E → Type 0) (first : L) (others : List L) (ends : List E) : Type 0 where
    pub started : List L
    pub left : List L
    pub first_end : E
    pub started_ends : List E
    pub left_ends : List E
    pub lanes_are : others ≡ started ++ left
    pub ends_are : ends ≡ first_end ∷ (started_ends ++ left_ends)
    pub one_was_refused : 0 < length left
    pub first_quit : quitted first first_end
    pub started_ran : AllZip ran started started_ends
    pub left_quit : AllZip quitted left left_ends

  -- the answer of a crew, of what `run` and `quit` mean, the first lane and the others
  abbrev pub HasCrewed : (L → E → Type 0) → (L → E → Type 0) → L → List L → Crewed E → Type 0
  HasCrewed ran quitted first others (Ended ends) = AllZip ran (first ∷ others) ends.items
  HasCrewed ran quitted first others (Refused ends) = HaveStopped ran quitted first others ends.items
  HasCrewed ran quitted first others (NoMemory ends) = (ends.items ≡ []) ⊎ HaveStopped ran quitted first others ends.items

-- the answer is that a start was refused
abbrev pub IsRefused : {E : Type 0} → Crewed E → Type 0
IsRefused (Ended ends) = ⊥
IsRefused (Refused ends) = Unit {0}
IsRefused (NoMemory ends) = ⊥
