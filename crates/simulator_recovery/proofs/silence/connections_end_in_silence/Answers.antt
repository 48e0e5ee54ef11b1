use Rattle.simulator_recovery.proofs.Lemmas.Silence.Spent.{point_spent, signal_spent}
use Rattle.simulator_recovery.proofs.silence.connections_end_in_silence.Goals as goal

pub returns : goal.returns
returns c =
    record {
      signal = λ site table outset events place made signal once station lies can takes late there. signal_spent c.laws_below.ensures site table station once outset events place made signal lies can takes late there;
      point = λ site table outset events place made point once station lies can takes late there. point_spent c.laws_below.ensures site table station once outset events place made point lies can takes late there;
    }
