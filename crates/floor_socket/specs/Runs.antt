-- A run: how long members last by the words, and how it ends.
use Rattle.std.specs.Prelude.{ℕ, ◌*◌, Result, Ok, Err, min, max}
use Rattle.floor_console.specs.declared.board.StopRefusal.{StopRefusal}
use Rattle.floor_listen.specs.Ending.{ended}
use Rattle.floor_listen.specs.declared.ending.Ending.{Ending}
use Rattle.floor_listen.specs.declared.ending.Ending.TheVariants.{Fault}
use Rattle.floor_listen.specs.declared.ending.ServerFault.{ServerFault}
use Rattle.floor_listen.specs.declared.ending.ServerFault.TheVariants.{Memory}
use Rattle.floor_loop.specs.declared.grace.Grace.{Grace}
use Rattle.floor_server.specs.Faults.{fault_of_stop}
use Rattle.floor_socket.specs.declared.serving.Run.{Run}

-- members outlive their connections so many seconds, and 30 at least where a conference goes on from its file
abbrev pub grace_of : ℕ → Grace
grace_of seconds = record {
  lost = min (seconds * 1000) 18446744073709551615;
  resumed = max (min (seconds * 1000) 18446744073709551615) 30000;
}

-- what the stop found, as the fault that it ends the server by
abbrev pub stopped : {A : Type 0} → Result A StopRefusal → Result (Unit {0}) ServerFault
stopped (Ok _) = Ok tt
stopped (Err refusal) = Err (fault_of_stop refusal)

-- how a run ends; one that couldn't be begun ends by want of memory
abbrev pub ending_of : {E : Type 0} → Result Run E → Ending
ending_of (Ok run) = ended run.served (stopped run.outcome)
ending_of (Err _) = Fault Memory
