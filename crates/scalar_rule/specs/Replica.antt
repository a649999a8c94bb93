-- A replica of the program as a configuration of the model.
use Rattle.scalar_rule.specs.declared.plain_copy.PlainCopy.{PlainCopy}
use Rattle.scalar_rule.specs.Sweep.{Configuration}

-- its spins and the words of its generators
abbrev pub configuration_of : PlainCopy → Configuration
configuration_of replica = record { spins = replica.spins; words = replica.wheels }

-- a replica with another configuration; its label stays
abbrev pub with_configuration : PlainCopy → Configuration → PlainCopy
with_configuration replica s = record { spins = s.spins; wheels = s.words; replica = replica.replica }
