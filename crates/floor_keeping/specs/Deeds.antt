-- The deed by which something is asked of a conference's file.
use Rattle.std.specs.Prelude.{ℕ, Bool, true, false, Option, Some, None}
use Rattle.floor_keeping.specs.declared.deed.Deed.{Deed}
use Rattle.floor_keeping.specs.declared.deed.Deed.TheVariants as deed
use Rattle.floor_keeping.specs.declared.deed.Ending.{Ending}
use Rattle.floor_keeping.specs.declared.deed.Ending.TheVariants as ending
use Rattle.floor_keeping.specs.declared.state.Asked.{Asked}
use Rattle.floor_keeping.specs.declared.state.Asked.TheVariants as asked
use Rattle.floor_keeping.specs.declared.state.Course.{Course}
use Rattle.floor_keeping.specs.declared.state.Course.TheVariants as course
use Rattle.floor_keeping.specs.declared.state.Front.{Front}
use Rattle.floor_keeping.specs.declared.state.Front.TheVariants as front
use Rattle.floor_keeping.specs.declared.state.State.{State}

-- behind how many bytes what is torn is cut off
abbrev pub cut_at : Front → ℕ
cut_at front.New = 0
cut_at (front.Torn stands) = stands
cut_at front.Whole = 0

-- a conference that was closed has a file of that name, any other one of those that are kept no more
abbrev pub ending_of : Course → Ending
ending_of course.GoesOn = ending.Unkept
ending_of course.Closing = ending.Closed
ending_of (course.Renaming cause) = ending.Unkept
ending_of (course.Spoiling cause) = ending.Unkept
ending_of (course.Emptying cause) = ending.Unkept
ending_of (course.Over e) = ending.Unkept

abbrev pub end_of : ℕ → Course → Option Deed
end_of conference course.GoesOn = None
end_of conference course.Closing = None
end_of conference (course.Renaming cause) = None
end_of conference (course.Spoiling cause) = None
end_of conference (course.Emptying cause) = None
end_of conference (course.Over e) = Some (deed.Over conference e)

-- what is to be done where this is asked
abbrev pub deed_of : ℕ → Asked → State → Option Deed
deed_of conference asked.Nothing s = None
deed_of conference asked.Begin s = Some (deed.Begin conference)
deed_of conference asked.Cut s = Some (deed.Cut conference (cut_at s.front))
deed_of conference asked.Append s = Some (deed.Append conference)
deed_of conference asked.Sync s = Some (deed.Sync conference)
deed_of conference asked.Rename s = Some (deed.Rename conference (ending_of s.course))
deed_of conference asked.Spoil s = Some (deed.Spoil conference)
deed_of conference asked.Empty s = Some (deed.Empty conference)
deed_of conference asked.Report s = Some (deed.Kept conference)
deed_of conference asked.End s = end_of conference s.course

-- the conference whose file the deed is of
abbrev pub conference_of : Deed → Option ℕ
conference_of deed.Lock = None
conference_of deed.ReadEpoch = None
conference_of deed.Find = None
conference_of (deed.ReadFile conference) = None
conference_of (deed.Begin conference) = Some conference
conference_of (deed.Cut conference len) = Some conference
conference_of (deed.Append conference) = Some conference
conference_of (deed.Sync conference) = Some conference
conference_of (deed.Rename conference e) = Some conference
conference_of (deed.Spoil conference) = Some conference
conference_of (deed.Empty conference) = Some conference
conference_of (deed.Kept conference) = Some conference
conference_of (deed.Over conference e) = Some conference

-- all but these is done only behind an epoch that was read in the same turn, and is ours
abbrev pub needs_epoch : Deed → Bool
needs_epoch deed.Lock = false
needs_epoch deed.ReadEpoch = false
needs_epoch deed.Find = true
needs_epoch (deed.ReadFile c) = true
needs_epoch (deed.Begin c) = true
needs_epoch (deed.Cut c len) = true
needs_epoch (deed.Append c) = true
needs_epoch (deed.Sync c) = true
needs_epoch (deed.Rename c e) = true
needs_epoch (deed.Spoil c) = true
needs_epoch (deed.Empty c) = true
needs_epoch (deed.Kept c) = true
needs_epoch (deed.Over c e) = true

-- the epoch is awaited behind it
abbrev pub reads_epoch : Deed → Bool
reads_epoch deed.Lock = false
reads_epoch deed.ReadEpoch = true
reads_epoch deed.Find = false
reads_epoch (deed.ReadFile c) = false
reads_epoch (deed.Begin c) = false
reads_epoch (deed.Cut c len) = false
reads_epoch (deed.Append c) = false
reads_epoch (deed.Sync c) = false
reads_epoch (deed.Rename c e) = false
reads_epoch (deed.Spoil c) = false
reads_epoch (deed.Empty c) = false
reads_epoch (deed.Kept c) = false
reads_epoch (deed.Over c e) = false
