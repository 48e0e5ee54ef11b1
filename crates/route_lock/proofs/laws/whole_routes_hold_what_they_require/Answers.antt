use Rattle.route_lock.proofs.laws.whole_routes_hold_what_they_require.Goals as goal

pub returns : goal.returns
returns c = λ st station once sound a p t whole need.
    let h = c.required_points_await_a_section_of_the_route.ensures st.table station once sound a p t need in
    (need, (h.0, h.1, whole.1 h.0 h.2))
