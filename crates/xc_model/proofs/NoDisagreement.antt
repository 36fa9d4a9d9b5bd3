-- Logs agree exactly where no disagreement is found.
use Rattle.xc_model.proofs.Common.{◌≡◌, None, Logs, Agrees, disagreement}
use Rattle.xc_record.proofs.FirstCase.{agree-exactly}

pub no-disagreement : (logs : Logs) → disagreement logs ≡ None → Agrees logs
no-disagreement logs = (agree-exactly logs).0

pub agrees-found : (logs : Logs) → Agrees logs → disagreement logs ≡ None
agrees-found logs = (agree-exactly logs).1
