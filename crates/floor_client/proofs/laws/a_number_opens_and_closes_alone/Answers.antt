use Rattle.floor_client.proofs.Numbering.{any-insert_key, any-without}
use Rattle.floor_client.proofs.laws.a_number_opens_and_closes_alone.Goals as goal

pub returns-clause-opens : goal.returns-clause-opens
returns-clause-opens c = λ t number other. any-insert_key number other t.open_numbers

pub returns-clause-closes : goal.returns-clause-closes
returns-clause-closes c = λ t number other. any-without number other t.open_numbers
