use Rattle.model_history.proofs.History.Queues.{dequeue_of_nothing, head_moves_under_a_dequeue}
use Rattle.model_history.proofs.runs_of_the_queue.Goals as goal

pub returns-clause-dequeue_of_nothing : goal.returns-clause-dequeue_of_nothing
returns-clause-dequeue_of_nothing c = dequeue_of_nothing

pub returns-clause-head_moves_under_a_dequeue : goal.returns-clause-head_moves_under_a_dequeue
returns-clause-head_moves_under_a_dequeue c = head_moves_under_a_dequeue
