use Rattle.std.proofs.Common.{◌≡◌, append_assoc, refl}
use Rattle.floor_console.specs.declared.command.ConsoleFault.{ConsoleFault}
use Rattle.floor_console.specs.declared.command.ConsoleFault.TheVariants.{UnknownCommand, BadNumber, Memory}
use Rattle.floor_console.specs.Answer as console
use Rattle.floor_control.specs.Answer.{unread}
use Rattle.floor_control.specs.Line.{of_console_fault}
use Rattle.floor_control.proofs.laws.answers_are_the_consoles.Goals as goal

faults : (fault : ConsoleFault) → unread (of_console_fault fault) ≡ console.faulty fault
faults UnknownCommand = refl
faults BadNumber = refl
faults Memory = refl

pub returns : goal.returns
returns c =
    record {
      unread = faults;
      refused = λ refusal. refl;
      closed = λ n. simp append_assoc;
      revoked = λ n request. simp append_assoc;
      user_added = λ n id. simp append_assoc;
      floor_added = λ n id. simp append_assoc;
      chair_set = λ n floor. simp append_assoc;
      standing = λ n status. simp append_assoc;
    }
