use Rattle.mt_printer.proofs.laws.printed_instances.Goals as goal
use Rattle.mt_printer.proofs.InstanceLaw.{instance_function_law}

pub returns : goal.returns
returns c = record { law = instance_function_law }
