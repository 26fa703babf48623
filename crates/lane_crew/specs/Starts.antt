-- What is known of lanes while they are being started.
use Rattle.std.specs.Prelude.{◌≡◌, ◌<◌, List, [], ◌∷◌, ◌++◌, length, Bool, true, false}
use Rattle.std.specs.List.{AllZip}
use Rattle.lane_crew.specs.Crews.{HaveStopped}
use Rattle.lane_crew.specs.declared.begun.Came.{Came}
use Rattle.lane_crew.specs.declared.begun.Came.TheVariants.{Ran, Back}
use Rattle.lane_crew.specs.declared.begun.Begun.{Begun}
use Rattle.lane_crew.specs.declared.begun.Begun.TheVariants.{There, Here}

-- with all lanes begun there are none left, else there is one
abbrev pub IsGoing : {L : Type 0} → Bool → List L → Type 0
IsGoing true left = left ≡ []
IsGoing false left = 0 < length left

module _ {L E : Type 0} where
  -- what a lane's closure gives: an end of its run, or the lane itself
  abbrev pub HasCome : (L → E → Type 0) → L → Came L E → Type 0
  HasCome ran lane (Ran end) = ran lane end
  HasCome ran lane (Back same) = same ≡ lane

  -- all have run, or a start was refused
  abbrev pub AreOver : (L → E → Type 0) → (L → E → Type 0) → L → List L → Bool → List E → Type 0
  AreOver ran quitted first others true ends = AllZip ran (first ∷ others) ends
  AreOver ran quitted first others false ends = HaveStopped ran quitted first others ends

-- a lane that was begun: its thread is of this lane, or it has run here
abbrev pub IsBegun : {L H E : Type 0} → (L → H → Type 0) → (L → E → Type 0) → L → Begun H E → Type 0
IsBegun is_of ran lane (There handle) = is_of lane handle
IsBegun is_of ran lane (Here end) = ran lane end

-- of these lanes those before a refused start have begun, and the others have quit
pub record HaveStarted {L B E : Type 0} (begins : L → B → Type 0) (quitted : L → E → Type 0) (lanes : List L) (begun : List B) (over : List E) (going : Bool) : Type 0 where
  pub started : List L
  pub left : List L
  pub lanes_are : lanes ≡ started ++ left
  pub started_begun : AllZip begins started begun
  pub left_quit : AllZip quitted left over
  pub going_is : IsGoing going left
