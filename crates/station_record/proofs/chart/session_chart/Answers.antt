use Rattle.station_record.proofs.NoChart.{differences_explain, session_drawn}
use Rattle.station_record.proofs.chart.session_chart.Goals as goal

pub returns-clause-explains : goal.returns-clause-explains
returns-clause-explains c =
    let texts = c.in_ok-texts.texts
    in let read = c.in_ok-texts.ensures.read
    in differences_explain c.args.layout.now c.args.recording.now texts.table texts.entries.items c.chart_of-chart.result read.sound read.says c.chart_of-chart.ensures.differs

pub returns-clause-drawn : goal.returns-clause-drawn
returns-clause-drawn c =
    let texts = c.in_ok-texts.texts
    in let read = c.in_ok-texts.ensures.read
    in session_drawn (λ text. text.items) c.args.layout.now c.args.recording.now c.args.cut texts.table texts.entries.items c.chart_of-chart.result read.sound read.says c.chart_of-chart.ensures.drawn
